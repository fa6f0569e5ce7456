-- What stands at an offset, by cases, and that it is read so. Assumes nothing.
use Rattle.std.proofs.Common.{◌≡◌, ℕ, suc, ◌+◌, ◌-◌, ◌<◌, ◌≤◌, Bool, true, false, cond, ltb, List, [], ◌∷◌, ◌++◌, length, get_or, take, drop, Some, None, Ok, Err, Option, Result, sym, refl, ap, ◌∙◌, subst, arith}
use Rattle.std.proofs.lemmas.List.{drop_all, drop_more, length-append, length-drop, length-take-le, take-append-drop, get_or-drop}
use Rattle.std.proofs.lemmas.Bool.{cond-true, cond-false, lt-ltb, le-ltb, ltb-true, ltb-false}
use Rattle.records.specs.declared.among.Kind.{Kind}
use Rattle.records.specs.Reading.{Record, body_length, whole_record, record_at}
use Rattle.records.specs.declared.BytesFault.{BytesFault}
use Rattle.records.specs.declared.BytesFault.TheVariants.{Unfinished, UnknownKind}

module _ (kinds : List Kind) (bs : List ℕ) where
  -- nothing, an unknown kind, a record that is cut short, or a whole record
  pub data Standing (at : ℕ) : Result Record BytesFault → Type 0 where
    nothing : drop at bs ≡ [] → Standing at (Err (Unfinished at))
    strange : (code : ℕ) (rest : List ℕ) → drop at bs ≡ code ∷ rest → body_length kinds code ≡ None → Standing at (Err (UnknownKind at))
    short : (code n : ℕ) (rest : List ℕ) → drop at bs ≡ code ∷ rest → body_length kinds code ≡ Some n → length rest < n → Standing at (Err (Unfinished at))
    whole : (code : ℕ) (body rest : List ℕ) → drop at bs ≡ code ∷ (body ++ rest) → body_length kinds code ≡ Some (length body) → Standing at (Ok (record { offset = at; code = code; end = at + 1 + length body }))

  module _ (at : ℕ) where
    pub standing : Standing at (record_at bs kinds at)
    standing = by_size (ltb at (length bs)) refl
      where
        by_room : at < length bs → (n : ℕ) → body_length kinds (get_or bs at 0) ≡ Some n → (b : Bool) → ltb (length bs - at - 1) n ≡ b → Standing at (cond b (Err (Unfinished at)) (Ok (record { offset = at; code = get_or bs at 0; end = at + 1 + n })))
        by_room lt n known true is =
            let few : length bs - at - 1 < n = ltb-true _ _ is in
            short (get_or bs at 0) n (drop (at + 1) bs) (drop_more bs at 0 lt) known (simp length-drop (omega arith))
        by_room lt n known false is =
            let enough : n ≤ length bs - at - 1 = ltb-false _ _ is in
            let rest : List ℕ = drop (at + 1) bs in
            let many : n ≤ length rest = simp length-drop (omega arith) in
            let long : length (take n rest) ≡ n = length-take-le n rest many in
            subst (λ k. Standing at (Ok (record { offset = at; code = get_or bs at 0; end = at + 1 + k }))) long
            (whole (get_or bs at 0) (take n rest) (drop n rest) (drop_more bs at 0 lt ∙ ap (λ xs. get_or bs at 0 ∷ xs) (sym (take-append-drop n rest))) (known ∙ ap Some (sym long)))

        by_kind : at < length bs → (o : Option ℕ) → body_length kinds (get_or bs at 0) ≡ o → Standing at (whole_record bs at (get_or bs at 0) o)
        by_kind lt None known = strange (get_or bs at 0) (drop (at + 1) bs) (drop_more bs at 0 lt) known
        by_kind lt (Some n) known = by_room lt n known (ltb (length bs - at - 1) n) refl

        by_size : (b : Bool) → ltb at (length bs) ≡ b → Standing at (cond b (whole_record bs at (get_or bs at 0) (body_length kinds (get_or bs at 0))) (Err (Unfinished at)))
        by_size true is = by_kind (ltb-true at (length bs) is) (body_length kinds (get_or bs at 0)) refl
        by_size false is = nothing (drop_all at bs (ltb-false at (length bs) is))

    -- a byte stands at the offset
    pub byte_there : (code : ℕ) (rest : List ℕ) → drop at bs ≡ code ∷ rest → (at < length bs) × (length rest ≡ length bs - at - 1) × (get_or bs at 0 ≡ code)
    byte_there code rest is =
        let long : length bs - at ≡ suc (length rest) = sym (length-drop at bs) ∙ ap length is in
        (omega arith, omega arith, ap (λ k. get_or bs k 0) (omega arith) ∙ sym (get_or-drop at bs 0 0) ∙ ap (λ xs. get_or xs 0 0) is)

    by_code : (code : ℕ) (rest : List ℕ) → drop at bs ≡ code ∷ rest → (o : Option ℕ) → body_length kinds code ≡ o → record_at bs kinds at ≡ whole_record bs at code o
    by_code code rest is o known =
        let w = byte_there code rest is in
        cond-true (ltb at (length bs)) _ _ (lt-ltb at (length bs) w.0)
        ∙ ap (λ k. whole_record bs at k (body_length kinds k)) w.2
        ∙ ap (whole_record bs at code) known

    -- what stands there is what is read
    pub read_so : (x : Result Record BytesFault) → Standing at x → record_at bs kinds at ≡ x
    read_so x (nothing is) =
        let none : length bs - at ≡ 0 = sym (length-drop at bs) ∙ ap length is in
        cond-false (ltb at (length bs)) _ _ (le-ltb at (length bs) (omega arith))
    read_so x (strange code rest is known) = by_code code rest is None known
    read_so x (short code n rest is known few) =
        let w = byte_there code rest is in
        by_code code rest is (Some n) known ∙ cond-true (ltb (length bs - at - 1) n) _ _ (lt-ltb _ _ (omega arith))
    read_so x (whole code body rest is known) =
        let w = byte_there code (body ++ rest) is in
        let long = length-append body rest in
        by_code code (body ++ rest) is (Some (length body)) known ∙ cond-false (ltb (length bs - at - 1) (length body)) _ _ (le-ltb _ _ (omega arith))
