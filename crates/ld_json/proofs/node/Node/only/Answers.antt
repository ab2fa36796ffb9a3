use Rattle.std.proofs.Common.{rules}
use Rattle.serde_json.specs.View.{members_view}
use Rattle.ld_json.proofs.KnownLemmas.{unknown_is_refused}
use Rattle.ld_json.proofs.node.Node.only.Goals as goal

pub returns-in-Some-first_unknown-clause-answer : goal.returns-in-Some-first_unknown-clause-answer
returns-in-Some-first_unknown-clause-answer c =
    (tt, λ _. unknown_is_refused c.args.self.now c.args.names.now c.in-Some-first_unknown.name.now _ (members_view c.in-Some.list.now.entries) _ (search rules) c.in_ok-known.ensures (rw (← c.as_slice.ensures.value) c.in-Some-first_unknown.ensures.value) (search rules))
