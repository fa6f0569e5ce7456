-- What one more read adds to the bytes that were filled.
use Rattle.std.proofs.Common.{◌≡◌, ◌≤◌, ◌+◌, ℕ, List, ◌++◌, length, take, Option, Some, None, subst, sym}
use Rattle.std.proofs.Math.Seq.{take-append-add}
use Rattle.std.proofs.lemmas.List.{append_assoc, take-append-le, length-take-le}
use Rattle.std.specs.Io.KnownBytes.{Consumes}
use borrow.Rule.Slice.PartMut.{put_mid, post_of}

-- the bytes filled before, and then those of the read
take-read : (f k n : ℕ) (buffer part : List ℕ) → f ≤ length buffer → n ≤ length part → take (f + n) (put_mid f k buffer part) ≡ take f buffer ++ take n part
take-read f k n buffer part inside given =
    let added = take-append-add (take f buffer) (part ++ post_of f k buffer) n in
    let at_filled = subst (λ m. take (m + n) (put_mid f k buffer part) ≡ take f buffer ++ take n (part ++ post_of f k buffer)) (length-take-le f buffer inside) added in
    subst (λ ys. take (f + n) (put_mid f k buffer part) ≡ take f buffer ++ ys) (take-append-le n part (post_of f k buffer) given) at_filled

-- what one read consumed and then the next, they consumed together
both_consumed : (first middle last : Option (List ℕ)) (xs ys : List ℕ) → Consumes first middle xs → Consumes middle last ys → Consumes first last (xs ++ ys)
both_consumed None middle last xs ys one other = tt
both_consumed (Some us) None last xs ys one other = elim one [ ]
both_consumed (Some us) (Some vs) None xs ys one other = elim other [ ]
both_consumed (Some us) (Some vs) (Some ws) xs ys one other = subst (λ zs. us ≡ zs) (sym (append_assoc xs ys ws)) (subst (λ zs. us ≡ xs ++ zs) other one)

-- the same, as the buffer holds them
pub consumed_read : (first middle last : Option (List ℕ)) (f k n : ℕ) (buffer part : List ℕ) → f ≤ length buffer → n ≤ length part → Consumes first middle (take f buffer) → Consumes middle last (take n part) → Consumes first last (take (f + n) (put_mid f k buffer part))
consumed_read first middle last f k n buffer part inside given one other =
    subst (Consumes first last) (sym (take-read f k n buffer part inside given)) (both_consumed first middle last (take f buffer) (take n part) one other)
