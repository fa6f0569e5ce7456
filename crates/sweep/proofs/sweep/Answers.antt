use Rattle.std.proofs.Common.{◌≡◌, ◌+◌, Bool, true, List, sym, ◌∙◌, subst₂, arith}
use Rattle.std.proofs.lemmas.Bool.{both_ways}
use Rattle.sweep.specs.Greatest.{held_in}
use Rattle.plant.specs.Staying.{can_stay}
use Rattle.sweep.proofs.Sweeping.{Sweeping, sweeping_kept, sweeping_lowered, sweeping_all}
use Rattle.sweep.proofs.sweep.Goals as goal
use Rattle.sweep.proofs.sweep.Goals.{then-held-s+then-not-state_stays, else-held-s, else-held-s-via-then-held-s+else-not-state_stays, else-held-s-via-else-held-s}

pub loop-s-preserved : goal.loop-s-preserved
loop-s-preserved g c =
    let m = g.P.Plant.meaning c.args.plant.now in
    let within = g.P.Plant.sound c.args.plant.now in
    let held = c.loop-s.held in
    let s = c.loop-s.s in
    let At : List Bool → Bool → Type 0 = λ flags changed. Sweeping m c.args.held.now flags changed (s + 1) in
    elim c.if-held-s.branch [
      | then-held-s+then-not-state_stays w ↦
          subst₂ At (sym w.held-is) (sym w.changed-is)
          (sweeping_lowered m within c.args.held.now held c.loop-s.changed s c.loop-s.invariant w.if-held-s.true (sym w.if-not-state_stays.ensures))
      | else-held-s w ↦
          let here : held_in held s ≡ true → can_stay m (held_in held) s ≡ true =
          elim w.else-held-s.branch [
            | else-held-s-via-then-held-s+else-not-state_stays v ↦ λ _. sym v.if-not-state_stays.ensures
            | else-held-s-via-else-held-s v ↦ λ flag. absurd (both_ways (held_in held s) v.if-held-s.false flag)
          ] in
          subst₂ At (sym w.held-is) (sym w.changed-is)
          (sweeping_kept m within c.args.held.now held c.loop-s.changed s c.loop-s.invariant here)
    ]

pub returns : goal.returns
returns g c =
    let m = g.P.Plant.meaning c.args.plant.now in
    sweeping_all m (g.P.Plant.sound c.args.plant.now) _ _ _ _ (c.loop-s.auto.held ∙ c.requires) (omega arith) c.loop-s.invariant
