-- How phases and calls read. Assumes nothing.
use Rattle.std.specs.Prelude.{ℕ, List, ◌++◌, codes, decimal}
use Rattle.reader.specs.declared.call.Call.{Call}
use Rattle.reader.specs.declared.call.Call.TheVariants.{Begin, Set, See, Close}
use Rattle.reader.specs.declared.phase.Phase.{Phase}
use Rattle.reader.specs.declared.phase.Phase.TheVariants.{Closed, Poised, Driven}

-- the phase with its state and setting
abbrev pub phase_words : Phase → List ℕ
phase_words Closed = codes "closed"
phase_words (Poised s) = codes "poised " ++ decimal s
phase_words (Driven s a) = codes "driven " ++ (decimal s ++ (codes " " ++ decimal a))

-- the call with its number
abbrev pub call_words : Call → List ℕ
call_words (Begin t) = codes "begin " ++ decimal t
call_words (Set a) = codes "set " ++ decimal a
call_words (See t) = codes "see " ++ decimal t
call_words Close = codes "close"

-- the phase as a place in a refusal
abbrev pub phase_place : Phase → ℕ
phase_place Closed = 0
phase_place (Poised s) = 1
phase_place (Driven s a) = 2
