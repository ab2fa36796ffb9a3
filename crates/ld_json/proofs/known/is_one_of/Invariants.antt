use Rattle.std.proofs.Common.{◌≡◌, map, drop, Bor, List, ℕ}
use Rattle.ld_json.specs.Known.{is_one_of}
use Rattle.ld_json.proofs.known.is_one_of.Given as goal

abbrev pub invariant-loop-piece : goal.invariant-loop-piece
invariant-loop-piece l = is_one_of (map (λ (p : Bor (List ℕ)). p.now) (drop l.piece-index l.known)) l.name ≡ is_one_of (map (λ (p : Bor (List ℕ)). p.now) l.known) l.name
