-- A string of calls as bytes. Assumes nothing.
use Rattle.std.specs.Prelude.{ℕ, cond, List, [], ◌∷◌, ◌++◌, ◌==◌}
use Rattle.std.specs.List.{flat_map}
use Rattle.records.specs.declared.among.Kind.{Kind}
use Rattle.reader.specs.declared.call.Call.{Call}
use Rattle.reader.specs.declared.call.Call.TheVariants.{Begin, Set, See, Close}

-- the kinds of the records (31, 32, 33, 34 and 3F hex)
abbrev pub begin_code : ℕ
begin_code = 49

abbrev pub set_code : ℕ
set_code = 50

abbrev pub see_code : ℕ
see_code = 51

abbrev pub close_code : ℕ
close_code = 52

abbrev pub end_code : ℕ
end_code = 63

-- a begin, a set and a see have a body of one byte, a close and the end none
abbrev pub log_kinds : List Kind
log_kinds =
    record { code = begin_code; body = 1 } ∷ (record { code = set_code; body = 1 } ∷ (record { code = see_code; body = 1 } ∷
    (record { code = close_code; body = 0 } ∷ (record { code = end_code; body = 0 } ∷ []))))

-- the record of a call
abbrev pub call_bytes : Call → List ℕ
call_bytes (Begin t) = begin_code ∷ (t ∷ [])
call_bytes (Set a) = set_code ∷ (a ∷ [])
call_bytes (See t) = see_code ∷ (t ∷ [])
call_bytes Close = close_code ∷ []

-- the records of calls, one after another
abbrev pub calls_bytes : List Call → List ℕ
calls_bytes cs = flat_map call_bytes cs

-- a log file: the records of the calls in order, then the end
abbrev pub log_bytes : List Call → List ℕ
log_bytes cs = calls_bytes cs ++ (end_code ∷ [])

-- the call of a record that is not the end: its kind, and the byte after it
abbrev pub call_of : ℕ → ℕ → Call
call_of code x =
    cond (code == begin_code) (Begin x) (cond (code == set_code) (Set x) (cond (code == see_code) (See x) Close))
