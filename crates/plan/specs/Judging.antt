-- What reading a plan comes to, as a function of its bytes. Assumes nothing.
use Rattle.std.specs.Prelude.{ℕ, zero, suc, ◌+◌, ◌^◌, Bool, cond, ◌&&◌, List, [], ◌∷◌, ◌++◌, length, Some, None, Ok, Err, Option, Result, ◌==◌, nat_le, nat_lt}
use Rattle.std.specs.List.{list_any}
use Rattle.records.specs.Reading.{Record, record_at}
use Rattle.records.specs.declared.among.Kind.{Kind}
use Rattle.records.specs.declared.BytesFault.{BytesFault}
use Rattle.records.specs.declared.BytesFault.TheVariants.{Unfinished, AfterEnd}
use Rattle.plan.specs.Items.{byte, clause_at, item_fits, clash}
use Rattle.plan.specs.Loops.{first_loop}
use Rattle.plan.specs.Machine.{Parts}
use Rattle.plan.specs.Sizes.{sizes_fit}
use Rattle.plan.specs.declared.clause.Clause.{Clause}
use Rattle.plan.specs.declared.fault.PlanFault.{PlanFault}
use Rattle.plan.specs.declared.fault.PlanFault.TheVariants.{Bytes, HeadMisplaced, SizeLimits, TooManyClauses, Malformed, Loop, Clash}

-- the most clauses and bans of a plan
abbrev pub most_clauses : ℕ
most_clauses = 96

-- a kind of record and the length of its body
abbrev kind : ℕ → ℕ → Kind
kind c n = record { code = c; body = n }

-- head, start clause, next clause, auxiliary clause, ban, end
abbrev pub plan_kinds : List Kind
plan_kinds = kind 1 3 ∷ (kind 2 2 ∷ (kind 3 10 ∷ (kind 4 10 ∷ (kind 5 8 ∷ (kind 15 0 ∷ [])))))

-- what was read so far: the lists, how many clauses and bans, and the offset of the first clash
pub record Seen : Type 0 where
  pub parts : Parts
  pub count : ℕ
  pub clash_at : Option ℕ

-- whether the clause clashes with one of its kind that was read before
abbrev pub clashes_with : Parts → ℕ → Clause → Bool
clashes_with p code c =
    cond (code == 2) (list_any (clash c) p.starts)
    (cond (code == 3) (list_any (clash c) p.nexts)
    (code == 4 && list_any (clash c) p.auxes))

-- the lists with one clause or ban more
abbrev pub with_clause : Parts → ℕ → Clause → Parts
with_clause p code c = record {
  bits = p.bits;
  lines = p.lines;
  auxiliaries = p.auxiliaries;
  starts = cond (code == 2) (p.starts ++ (c ∷ [])) p.starts;
  nexts = cond (code == 3) (p.nexts ++ (c ∷ [])) p.nexts;
  auxes = cond (code == 4) (p.auxes ++ (c ∷ [])) p.auxes;
  bans = cond (code == 5) (p.bans ++ (c.condition ∷ [])) p.bans;
}

-- the first of two offsets, where there is one
abbrev pub earlier : Option ℕ → Bool → ℕ → Option ℕ
earlier (Some o) test offset = Some o
earlier None test offset = cond test (Some offset) None

-- what was read so far, with one clause or ban more
abbrev pub kept : Seen → ℕ → ℕ → Clause → Seen
kept s offset code c = record {
  parts = with_clause s.parts code c;
  count = s.count + 1;
  clash_at = earlier s.clash_at (clashes_with s.parts code c) offset;
}

-- one record after the head that is not the end: no head (3), not one too many (5), in order (6)
abbrev pub judge_record : List ℕ → Seen → ℕ → ℕ → Result Seen PlanFault
judge_record bs s offset code =
    cond (code == 1) (Err (HeadMisplaced offset))
    (cond (nat_le most_clauses s.count) (Err (TooManyClauses offset))
    (cond (item_fits s.parts.bits s.parts.lines s.parts.auxiliaries bs offset code) (Ok (kept s offset code (clause_at bs offset code))) (Err (Malformed offset))))

-- loops (8), then clashes (9)
abbrev pub judge_clash : Parts → Option ℕ → Result Parts PlanFault
judge_clash p (Some o) = Err (Clash o)
judge_clash p None = Ok p

abbrev pub judge_loop : Seen → Option ℕ → Result Parts PlanFault
judge_loop s (Some l) = Err (Loop l)
judge_loop s None = judge_clash s.parts s.clash_at

abbrev pub judge_whole : Seen → Result Parts PlanFault
judge_whole s = judge_loop s (first_loop s.parts.auxes (2 ^ (s.parts.bits + s.parts.lines + s.parts.auxiliaries)) (s.parts.bits + s.parts.lines) s.parts.auxiliaries)

-- a byte after the end (7), then the whole
abbrev pub judge_end : List ℕ → Seen → ℕ → Result Parts PlanFault
judge_end bs s end = cond (nat_lt end (length bs)) (Err (Bytes (AfterEnd end))) (judge_whole s)

-- what comes after a record: its refusal, or the records after it
abbrev pub go_on : (Seen → ℕ → Result Parts PlanFault) → ℕ → Result Seen PlanFault → Result Parts PlanFault
go_on later end (Err f) = Err f
go_on later end (Ok s) = later s end

-- the record at an offset, if there is one: the end, or one more
abbrev pub judge_found : (Seen → ℕ → Result Parts PlanFault) → List ℕ → Seen → Result Record BytesFault → Result Parts PlanFault
judge_found later bs s (Err f) = Err (Bytes f)
judge_found later bs s (Ok r) = cond (r.code == 15) (judge_end bs s r.end) (go_on later r.end (judge_record bs s r.offset r.code))

-- record by record from an offset on; each takes a byte at least, so as many records as bytes are enough
abbrev pub judge_from : ℕ → List ℕ → Seen → ℕ → Result Parts PlanFault
judge_from zero bs s at = Err (Bytes (Unfinished at))
judge_from (suc f) bs s at = judge_found (λ t end. judge_from f bs t end) bs s (record_at bs plan_kinds at)

-- no clause yet, of a plan with these sizes
abbrev pub none_yet : ℕ → ℕ → ℕ → Seen
none_yet b n m = record {
  parts = record { bits = b; lines = n; auxiliaries = m; starts = []; nexts = []; auxes = []; bans = [] };
  count = 0;
  clash_at = None;
}

-- the head: it stands first (3), and its sizes are within their limits (4)
abbrev pub judge_head : List ℕ → Result Record BytesFault → Result Parts PlanFault
judge_head bs (Err f) = Err (Bytes f)
judge_head bs (Ok r) =
    cond (r.code == 1)
    (cond (sizes_fit (byte bs 1) (byte bs 2) (byte bs 3)) (judge_from (length bs) bs (none_yet (byte bs 1) (byte bs 2) (byte bs 3)) r.end) (Err SizeLimits))
    (Err (HeadMisplaced 0))

-- the whole file
abbrev pub judge : List ℕ → Result Parts PlanFault
judge bs = judge_head bs (record_at bs plan_kinds 0)
