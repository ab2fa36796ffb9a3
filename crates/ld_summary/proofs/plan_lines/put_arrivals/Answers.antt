use Rattle.std.proofs.Common.{◌∙◌, ◌++◌, [], ap, arith, sym}
use Rattle.std.proofs.lemmas.List.{append-nil}
use Rattle.ld_summary.specs.PlanText.{moment_line}
use Rattle.ld_summary.proofs.ListedLemmas.{all_told, within_items}
use Rattle.ld_summary.proofs.PlanTextLemmas.{moment_is, told_added, told_passed}
use Rattle.ld_summary.proofs.ScenarioLemmas.{grows_more, on_err}
use Rattle.ld_summary.proofs.plan_lines.put_arrivals.Goals as goal
use Rattle.ld_summary.proofs.plan_lines.put_arrivals.Goals.{then-owns+in_ok-put_moment, else-owns}

pub returns-in_err-put_moment-clause-err : goal.returns-in_err-put_moment-clause-err
returns-in_err-put_moment-clause-err c =
    let so_far = c.loop-item.invariant.grows in
    on_err c.from_residual.result
    (grows_more c.args.into.now.items c.loop-item.into.items c.put_moment.new.into.items so_far.0 so_far.1 c.in_err-put_moment.ensures.err)

pub loop-item-init : goal.loop-item-init
loop-item-init c =
    let before = c.args.into.now.items in
    record {
      told = λ part whole at. sym (append-nil before);
      grows = ([], sym (append-nil before));
    }

pub loop-item-preserved : goal.loop-item-preserved
loop-item-preserved c =
    let seen = c.args.plan.now in
    let item = c.loop-item.item in
    let so_far = c.loop-item.invariant.grows in
    let told = c.loop-item.invariant.told in
    elim c.if-owns.branch [
      | then-owns+in_ok-put_moment w ↦
          rw w.into-is (record {
            told = λ part whole at.
                told_added seen c.args.number part whole item _ _ _ c.owns.result at w.if-owns.true c.owns.ensures (told part whole at)
                (w.in_ok-put_moment.ensures.ok
                ∙ ap (λ m. c.loop-item.into.items ++ moment_line item m) (moment_is seen c.args.number part whole item w.moment.result at w.moment.ensures.moment));
            grows =
                grows_more c.args.into.now.items c.loop-item.into.items w.put_moment.new.into.items so_far.0 so_far.1
                (moment_line item w.moment.result, w.in_ok-put_moment.ensures.ok);
          })
      | else-owns w ↦
          rw w.into-is (record {
            told = λ part whole at. told_passed seen c.args.number part whole item _ _ c.owns.result at w.if-owns.false c.owns.ensures (told part whole at);
            grows = so_far;
          })
    ]

pub returns-clause-ok : goal.returns-clause-ok
returns-clause-ok c =
    let end = c.loop-item.auto.item-end in
    let past = c.loop-item-test.false in
    all_told c.args.plan.now c.args.number c.loop-item.item c.arrivals-item-end.result c.args.into.now.items c.loop-item.into.items
    c.requires.made c.requires.inside (omega arith) c.arrivals-item-end.ensures.arrivals c.loop-item.invariant.told

pub owns-requires : goal.owns-requires
owns-requires c =
    within_items c.args.plan.now c.args.number c.loop-item.item c.arrivals-item-end.result c.requires.made c.requires.inside
    c.loop-item-test.true c.arrivals-item-end.ensures.arrivals
