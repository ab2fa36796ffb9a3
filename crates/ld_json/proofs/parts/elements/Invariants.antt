use Rattle.std.proofs.Common.{◌≡◌, ◌++◌, drop}
use Rattle.serde_json.specs.View.{items_view}
use Rattle.ld_json.specs.Node.{elements}
use Rattle.ld_json.proofs.parts.elements.Given as goal

abbrev pub invariant-loop-item : goal.invariant-loop-item
invariant-loop-item l = (l.index ≡ l.item-index) × (l.nodes.items ++ elements l.path l.item-index (items_view (drop l.item-index l.item-items)) ≡ elements l.path 0 (items_view l.items.items))
