-- Which moves of a bench table lie within its sizes. Assumes nothing.
use Rattle.std.specs.Prelude.{ℕ, Bool, ◌&&◌, nat_lt}
use Rattle.bench.specs.declared.entry.Move.{Move}

-- a move between states, by a setting
abbrev pub move_fits : ℕ → ℕ → Move → Bool
move_fits states settings v = nat_lt v.from states && (nat_lt v.setting settings && nat_lt v.to states)
