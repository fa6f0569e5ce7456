-- What a found record, or its fault, says of the bytes. Assumes nothing.
use Rattle.std.proofs.Common.{◌≡◌, ℕ, ◌+◌, ◌<◌, ◌≤◌, List, ◌∷◌, ◌++◌, length, get_or, drop, Some, Ok, Err, Result, sym, refl, ap, ◌∙◌, subst, inl, inr, arith}
use Rattle.std.proofs.lemmas.List.{drop_more, length-append}
use Rattle.std.proofs.lemmas.Bool.Decides.{nat_tests}
use Rattle.records.specs.Damage.{Damaged}
use Rattle.records.specs.Ending.{Ended}
use Rattle.records.specs.declared.among.Kind.{Kind}
use Rattle.records.specs.Reading.{Record, body_length, record_at}
use Rattle.records.specs.declared.BytesFault.{BytesFault}
use Rattle.records.specs.declared.BytesFault.TheVariants.{Unfinished, UnknownKind, AfterEnd}
use Rattle.records.proofs.Standing.{Standing, nothing, strange, short, whole, standing, byte_there}

-- two answers of different kinds are not the same
pub err_ok : {X Y : Type 0} (e : Y) (x : X) → ◌≡◌ {A = Result X Y} (Err e) (Ok x) → ⊥
err_ok e x is = grind arith

-- the first byte of what is left
pub one_byte : (bytes : List ℕ) (i j : ℕ) → i < length bytes → i + 1 ≡ j → drop i bytes ≡ get_or bytes i 0 ∷ drop j bytes
one_byte bytes i j lt e = drop_more bytes i 0 lt ∙ ap (λ k. get_or bytes i 0 ∷ drop k bytes) e

-- a record that was found stands at the offset with the byte there as its kind, and its body lies within the bytes
pub record Found (bytes : List ℕ) (kinds : List Kind) (at : ℕ) (r : Record) : Type 0 where
  pub offset : r.offset ≡ at
  pub code : r.code ≡ get_or bytes at 0
  pub body : ℕ
  pub known : body_length kinds r.code ≡ Some body
  pub end : r.end ≡ at + 1 + body
  pub within : r.end ≤ length bytes

module _ (bytes : List ℕ) (kinds : List Kind) (at : ℕ) where
  -- past the bytes there is no record
  pub none_there : length bytes ≤ at → record_at bytes kinds at ≡ Err (Unfinished at)
  none_there past = grind (arith, nat_tests)

  pub found : (r : Record) → record_at bytes kinds at ≡ Ok r → Found bytes kinds at r
  found r e = by (record_at bytes kinds at) (standing kinds bytes at) e
    where
      by : (x : Result Record BytesFault) → Standing kinds bytes at x → x ≡ Ok r → Found bytes kinds at r
      by x (nothing is) same = absurd (err_ok (Unfinished at) r same)
      by x (strange code rest is known) same = absurd (err_ok (UnknownKind at) r same)
      by x (short code n rest is known few) same = absurd (err_ok (Unfinished at) r same)
      by x (whole code body rest is known) same =
          let this : ◌≡◌ {A = Record} (record { offset = at; code = code; end = at + 1 + length body }) r = cc in
          let there = byte_there kinds bytes at code (body ++ rest) is in
          let lt = there.0 in
          let left = there.1 in
          let long = length-append body rest in
          subst (λ (y : Record). Found bytes kinds at y) this (record { offset = refl; code = sym there.2; body = length body; known = known; end = refl; within = omega arith })

  -- where there is no record, the bytes from the offset on are damaged
  pub damaged : (end_code : ℕ) (f : BytesFault) → record_at bytes kinds at ≡ Err f → Damaged kinds end_code (drop at bytes) at f
  damaged end_code f e = by (record_at bytes kinds at) (standing kinds bytes at) e
    where
      told : (g : BytesFault) → ◌≡◌ {A = Result Record BytesFault} (Err g) (Err f) → Damaged kinds end_code (drop at bytes) at g → Damaged kinds end_code (drop at bytes) at f
      told g same d = let this : g ≡ f = cc in subst (λ (y : BytesFault). Damaged kinds end_code (drop at bytes) at y) this d

      by : (x : Result Record BytesFault) → Standing kinds bytes at x → x ≡ Err f → Damaged kinds end_code (drop at bytes) at f
      by x (nothing is) same = told (Unfinished at) same (refl, inl is)
      by x (strange code rest is known) same = told (UnknownKind at) same (refl, (code, rest, is, known))
      by x (short code n rest is known few) same = told (Unfinished at) same (refl, inr (code, n, rest, is, known, few))
      by x (whole code body rest is known) same = absurd (err_ok f _ (sym same))

-- a byte was found after the end, or none
pub ended_err : (bytes : List ℕ) (o : ℕ) (e : BytesFault) → Ended bytes o (Err e) → (o < length bytes) × (e ≡ AfterEnd o)
ended_err bytes o e is = grind (arith, nat_tests)

pub ended_ok : (bytes : List ℕ) (o : ℕ) → Ended bytes o (Ok tt) → length bytes ≤ o
ended_ok bytes o is = grind (arith, nat_tests)
