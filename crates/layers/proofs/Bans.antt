-- Bans in words: when one is true of a pair, and when its masks lie within the letters. Assumes nothing.
use Rattle.std.proofs.Common.{get_or, ◌≡◌, ℕ, ◌+◌, ◌-◌, ◌^◌, ◌<◌, ◌≤◌, Bool, true, false, not, ltb, List, [], ◌∷◌, Decides, sym, refl, ◌∙◌, subst, inl, inr, ⊎_elim}
use mathlib.Core.List.Memᴰ
use mathlib.Core.List.{Memᴰ}
use Rattle.std.proofs.lemmas.Bool.{and_parts, and_from, and_cases, both_ways, false_from_ne_true, cases_lt, cond-true, cond-false, lt-ltb, le-ltb, ltb-true, ltb-false, not-true, not_from_false}
use Rattle.plant.specs.Bits.{bit}
use Rattle.plant.specs.Conditions.{holds, pair_word}
use Rattle.plant.specs.Entries.{ban_fits}
use Rattle.plant.specs.Meaning.{Meaning, Within}
use Rattle.std.specs.List.{list_all, list_any}
use Rattle.plant.specs.Tests.{FirstMisfit}
use Rattle.plant.specs.declared.condition.Condition.{Condition}
use Rattle.plant.proofs.Bits.{bit_beyond, bit_under, bit_over, bit_from}
use Rattle.plant.proofs.Conditions.{holds_decides}
use Rattle.plant.proofs.Tests.{some_decides}
use Rattle.layers.specs.Banned.{banned_meaning, BannedWords}
use Rattle.layers.specs.Bans.{letter, TrueOf, Beyond, AllWithin, FirstBeyond}

-- the letters of a pair are the bits of its word
word_letter : (b s a i : ℕ) → s < 2 ^ b → bit (pair_word b s a) i ≡ letter b s a i
word_letter b s a i small =
    ⊎_elim
    (λ lt. bit_under a b s i lt ∙ sym (cond-true (ltb i b) (bit s i) (bit a (i - b)) (lt-ltb i b lt)))
    (λ past. bit_over a b s i small past ∙ sym (cond-false (ltb i b) (bit s i) (bit a (i - b)) (le-ltb i b past)))
    (cases_lt i b)

true_decides : (b : ℕ) (ban : Condition) (s a : ℕ) → s < 2 ^ b → Decides (holds ban (pair_word b s a)) (TrueOf b ban s a)
true_decides b ban s a small =
    let d = holds_decides ban (pair_word b s a) in
    let same : (i : ℕ) → bit (pair_word b s a) i ≡ letter b s a i = λ i. word_letter b s a i small in (
      λ e. let h = d.0 e in record { on = λ i has. sym (same i) ∙ h.on i has; off = λ i has. sym (same i) ∙ h.off i has },
      λ h. d.1 (record { on = λ i has. same i ∙ h.on i has; off = λ i has. same i ∙ h.off i has }),
    )

-- a ban fits where it has no letter past the sizes
pub fits_within : (b n : ℕ) (ban : Condition) → ban_fits b n ban ≡ true → Beyond b n ban → ⊥
fits_within b n ban fits w =
    let parts = and_parts _ _ fits in
    ⊎_elim
    (λ has. both_ways _ (bit_beyond ban.ones (b + n) w.0 (ltb-true _ _ parts.0) w.1) has)
    (λ has. both_ways _ (bit_beyond ban.zeros (b + n) w.0 (ltb-true _ _ parts.1) w.1) has)
    w.2

-- a mask past the letters has a letter past them
mask_beyond : (x n : ℕ) → ltb x (2 ^ n) ≡ false → (i : ℕ) × (n ≤ i) × (bit x i ≡ true)
mask_beyond x n large = bit_from x n (ltb-false x (2 ^ n) large)

pub misfit_beyond : (b n : ℕ) (ban : Condition) → ban_fits b n ban ≡ false → Beyond b n ban
misfit_beyond b n ban fails =
    ⊎_elim
    (λ e. let w = mask_beyond ban.ones (b + n) e in (w.0, w.1, inl w.2))
    (λ e. let w = mask_beyond ban.zeros (b + n) e in (w.0, w.1, inr w.2))
    (and_cases _ _ fails)

pub all_within : (b n : ℕ) (bans : List Condition) → list_all (ban_fits b n) bans ≡ true → AllWithin b n bans
all_within b n [] all ban here = absurd (Memᴰ.not-nil here)
all_within b n (x ∷ xs) all ban here =
    let parts = and_parts (ban_fits b n x) (list_all (ban_fits b n) xs) all in
    ⊎_elim (λ is. fits_within b n ban (subst (λ (y : Condition). ban_fits b n y ≡ true) (sym is) parts.0)) (λ later. all_within b n xs parts.1 ban later) (Memᴰ.cases_cons here)

-- the first ban that does not fit is the first with a letter past the sizes
pub first_beyond : (b n : ℕ) (bans : List Condition) (i : ℕ) → FirstMisfit (ban_fits b n) bans i → FirstBeyond b n bans i
first_beyond b n bans i first = record {
  inside = first.inside;
  beyond = λ d. misfit_beyond b n (get_or bans i d) (first.fails d);
  first = λ k d lt. fits_within b n (get_or bans k d) (first.first k d lt);
}

module _ (m : Meaning) (within : Within m) (bans : List Condition) where
  -- some ban of the list is true of the pair
  abbrev some_true : ℕ → ℕ → Bool
  some_true s a = list_any (λ ban. holds ban (pair_word m.bits s a)) bans

  safe_words : (s a : ℕ) → Decides ((banned_meaning m bans).safe s a) ((m.safe s a ≡ true) × ((ban : Condition) → Memᴰ ban bans → TrueOf m.bits ban s a → ⊥))
  safe_words s a =
      let some = some_decides (λ ban. holds ban (pair_word m.bits s a)) bans in (
        λ e.
            let parts = and_parts (m.safe s a) (not (some_true s a)) e in
            (parts.0, λ ban here is. both_ways _ (not-true _ parts.1) (some.1 (ban, here, (true_decides m.bits ban s a (within.safe_state s a parts.0)).1 is))),
        λ h.
            and_from _ _ h.0
            (not_from_false _ (false_from_ne_true _ (λ e. let w = some.0 e in h.1 w.0 w.1 ((true_decides m.bits w.0 s a (within.safe_state s a h.0)).0 w.2)))),
      )

  pub banned_words : BannedWords m bans (banned_meaning m bans)
  banned_words = record {
    bits = refl;
    lines = refl;
    start = λ t. refl;
    safe = safe_words;
    follows = λ s a t. refl;
  }
