use Rattle.std.proofs.Common.{◌≡◌, map, Bor, List, ℕ}
use Rattle.serde_json.specs.View.{members_view}
use Rattle.ld_json.specs.Known.{first_unknown}
use Rattle.ld_json.proofs.known.first_unknown.Given as goal

abbrev pub invariant-loop-key : goal.invariant-loop-key
invariant-loop-key l = first_unknown (map (λ (p : Bor (List ℕ)). p.now) l.known) (members_view l.key-iterator) ≡ first_unknown (map (λ (p : Bor (List ℕ)). p.now) l.known) (members_view l.members.entries)
