use Rattle.ld_machine.proofs.FirstOfEachLemmas.{none_at_start, none_below_more, first_found, first_kept_none, first_kept, first_replaced, first_at_end, none_at_end}
use Rattle.ld_machine.proofs.together.first_step_by_step.Goals as goal

pub returns-clause-start : goal.returns-clause-start
returns-clause-start c plan state t = none_at_start plan state t

pub returns-clause-none : goal.returns-clause-none
returns-clause-none c plan state t = none_below_more plan state t

pub returns-clause-found : goal.returns-clause-found
returns-clause-found c plan state t = first_found plan state t

pub returns-clause-kept_by_none : goal.returns-clause-kept_by_none
returns-clause-kept_by_none c plan state t = first_kept_none plan state t

pub returns-clause-kept : goal.returns-clause-kept
returns-clause-kept c plan state t = first_kept plan state t

pub returns-clause-replaced : goal.returns-clause-replaced
returns-clause-replaced c plan state t = first_replaced plan state t

pub returns-clause-first : goal.returns-clause-first
returns-clause-first c plan state t = first_at_end plan state t

pub returns-clause-nothing : goal.returns-clause-nothing
returns-clause-nothing c plan state t = none_at_end plan state t
