-- What stands at an offset of a log file, in words. Assumes nothing.
use Rattle.std.proofs.Common.{◌≡◌, ℕ, ◌+◌, ◌<◌, ◌≤◌, Bool, true, false, cond, eqb, ltb, ◌⊎◌, List, [], ◌∷◌, ◌++◌, length, get_or, drop, Some, None, Ok, Err, Result, sym, refl, ap, ◌∙◌, subst, ⊎_elim, arith}
use Rattle.std.proofs.lemmas.List.{drop_all}
use Rattle.std.proofs.lemmas.Bool.{eqb-true, eqb-false, ltb-true, ltb-false}
use Rattle.std.proofs.lemmas.Bool.Decides.{nat_tests}
use Rattle.records.specs.Reading.{Record, body_length, record_at}
use Rattle.records.specs.declared.BytesFault.{BytesFault}
use Rattle.records.specs.declared.BytesFault.TheVariants.{AfterEnd}
use Rattle.records.proofs.Finding.{found, damaged, one_byte}
use Rattle.reader.specs.declared.call.Call.{Call}
use Rattle.reader.specs.declared.call.Call.TheVariants.{Begin, Set, See, Close}
use Rattle.log_file.specs.Encoding.{begin_code, set_code, see_code, close_code, end_code, log_kinds, call_bytes, call_of}
use Rattle.log_file.specs.Outcome.{CallThere, EntryInWords}
use Rattle.log_file.specs.Running.{entry_found, entry_at}

-- the kinds and the lengths of their bodies
kinds_only : (code k : ℕ) → body_length log_kinds code ≡ Some k
    → ((code ≡ begin_code) × (k ≡ 1)) ⊎ (((code ≡ set_code) × (k ≡ 1)) ⊎ (((code ≡ see_code) × (k ≡ 1)) ⊎ (((code ≡ close_code) × (k ≡ 0)) ⊎ ((code ≡ end_code) × (k ≡ 0)))))
kinds_only code k e = grind (arith, nat_tests)

module _ (bytes : List ℕ) (at : ℕ) where
  -- a call with a number, and one without
  numbered : (c : Call) (code end : ℕ) → call_bytes c ≡ code ∷ (get_or bytes (at + 1) 0 ∷ []) → get_or bytes at 0 ≡ code → end ≡ at + 2 → end ≤ length bytes → CallThere bytes at c end
  numbered c code end is here e within = record {
    stands = one_byte bytes at (at + 1) (omega arith) refl ∙ ap (λ k. k ∷ drop (at + 1) bytes) here ∙
        ap (λ t. code ∷ t) (one_byte bytes (at + 1) end (omega arith) (omega arith)) ∙ ap (λ xs. xs ++ drop end bytes) (sym is);
    next = e ∙ ap (λ xs. at + length xs) (sym is);
    within = within;
  }

  alone : (c : Call) (code end : ℕ) → call_bytes c ≡ code ∷ [] → get_or bytes at 0 ≡ code → end ≡ at + 1 → end ≤ length bytes → CallThere bytes at c end
  alone c code end is here e within = record {
    stands = one_byte bytes at end (omega arith) (omega arith) ∙ ap (λ k. k ∷ drop end bytes) here ∙ ap (λ xs. xs ++ drop end bytes) (sym is);
    next = e ∙ ap (λ xs. at + length xs) (sym is);
    within = within;
  }

  -- the call of a record that is not the end
  at_call : (r : Record) → record_at bytes log_kinds at ≡ Ok r → (r.code ≡ end_code → ⊥) → CallThere bytes at (call_of r.code (get_or bytes (at + 1) 0)) r.end
  at_call r is other =
      let w = found bytes log_kinds at r is in
      let e = w.end in
      let in_bytes = w.within in
      let x = get_or bytes (at + 1) 0 in
      let by_code : (code : ℕ) → r.code ≡ code → CallThere bytes at (call_of code x) r.end → CallThere bytes at (call_of r.code x) r.end =
      λ code same there. subst (λ k. CallThere bytes at (call_of k x) r.end) (sym same) there in
      ⊎_elim (λ k. let len = k.1 in by_code begin_code k.0 (numbered (Begin x) begin_code r.end refl (sym w.code ∙ k.0) (omega arith) in_bytes)) (λ k1.
      ⊎_elim (λ k. let len = k.1 in by_code set_code k.0 (numbered (Set x) set_code r.end refl (sym w.code ∙ k.0) (omega arith) in_bytes)) (λ k2.
      ⊎_elim (λ k. let len = k.1 in by_code see_code k.0 (numbered (See x) see_code r.end refl (sym w.code ∙ k.0) (omega arith) in_bytes)) (λ k3.
      ⊎_elim (λ k. let len = k.1 in by_code close_code k.0 (alone Close close_code r.end refl (sym w.code ∙ k.0) (omega arith) in_bytes)) (λ k. absurd (other k.0))
      k3) k2) k1) (kinds_only r.code w.body w.known)

  -- the end record is a single byte
  at_end : (r : Record) → record_at bytes log_kinds at ≡ Ok r → r.code ≡ end_code → (r.end ≡ at + 1) × (at < length bytes) × (get_or bytes at 0 ≡ end_code)
  at_end r is end =
      let w = found bytes log_kinds at r is in
      let e = w.end in
      let in_bytes = w.within in
      let first = w.code in
      let k = kinds_only r.code w.body w.known in
      grind arith

  at_last : (r : Record) → record_at bytes log_kinds at ≡ Ok r → r.code ≡ end_code → (t : Bool) → ltb r.end (length bytes) ≡ t → EntryInWords bytes at (cond t (Err (AfterEnd r.end)) (Ok None))
  at_last r is end true more =
      let w = at_end r is end in
      let e = w.0 in
      let l = ltb-true r.end (length bytes) more in
      (e, (get_or bytes (at + 1) 0, drop (at + 2) bytes, one_byte bytes at (at + 1) (omega arith) refl ∙ ap (λ k. k ∷ drop (at + 1) bytes) w.2 ∙ ap (λ t. end_code ∷ t) (one_byte bytes (at + 1) (at + 2) (omega arith) (omega arith))))
  at_last r is end false none =
      let w = at_end r is end in
      let e = w.0 in
      let l = ltb-false r.end (length bytes) none in
      one_byte bytes at (at + 1) w.1 refl ∙ ap (λ k. k ∷ drop (at + 1) bytes) w.2 ∙ ap (λ t. end_code ∷ t) (drop_all (at + 1) bytes (omega arith))

  at_record : (r : Record) → record_at bytes log_kinds at ≡ Ok r → (t : Bool) → eqb r.code end_code ≡ t
      → EntryInWords bytes at (cond t (cond (ltb r.end (length bytes)) (Err (AfterEnd r.end)) (Ok None)) (Ok (Some (record { call = call_of r.code (get_or bytes (at + 1) 0); end = r.end }))))
  at_record r is true end = at_last r is (eqb-true r.code end_code end) (ltb r.end (length bytes)) refl
  at_record r is false other = at_call r is (eqb-false r.code end_code other)

  at_found : (x : Result Record BytesFault) → record_at bytes log_kinds at ≡ x → EntryInWords bytes at (entry_found bytes at x)
  at_found (Err f) is = damaged bytes log_kinds at end_code f is
  at_found (Ok r) is = at_record r is (eqb r.code end_code) refl

  -- what is computed is what stands there
  pub entry_words : EntryInWords bytes at (entry_at bytes at)
  entry_words = at_found (record_at bytes log_kinds at) refl
