use Rattle.std.proofs.Common.{rules, ◌≡◌, ◌≢◌, ◌-◌, ◌++◌, ℕ, List, drop, take, length, arith}
use Rattle.ld_wire.specs.Chunks.{ChunksRefuse}
use Rattle.ld_wire.specs.Standing.{StandsAt}
use Rattle.ld_wire.specs.declared.fault.WireFault.{WireFault}
use Rattle.ld_wire.specs.declared.fault.WireFault.TheVariants.{Memory}
use Rattle.ld_wire.proofs.ChunkStepLemmas.{refused_behind, step_behind}
use Rattle.ld_wire.proofs.HandedLemmas.{handed}
use Rattle.ld_wire.proofs.chunks.take_chunks.Goals as goal

pub loop-used-preserved : goal.loop-used-preserved
loop-used-preserved c =
    let piece = c.args.piece.now in
    let used = c.loop-used.used in
    let rest = c.split_at.result.1.now in
    let at = c.loop-used.invariant in
    let same : rest ≡ drop used piece = search rules in
    let first = c.requires in
    let steps = c.in_ok-step.ensures.ok (first.0 ++ take used piece) (at.stands first.0 first.1) in
    let inside = steps.inside in
    let long : length rest ≡ length piece - used = search rules in
    let before = at.inside in
    record {
      inside = omega arith;
      stands = λ text stands.
          step_behind c.in_ok-step.step c.chunk_step.new.held.items c.chunk_step.new.body.items text piece rest used same
          (c.in_ok-step.ensures.ok (text ++ take used piece) (at.stands text stands));
    }

pub returns-in_err-step-clause-err : goal.returns-in_err-step-clause-err
returns-in_err-step-clause-err c =
    let piece = c.args.piece.now in
    let used = c.loop-used.used in
    let rest = c.split_at.result.1.now in
    let same : rest ≡ drop used piece = search rules in
    let P : WireFault → Type 0 = λ fault. fault ≢ Memory → (text : List ℕ)
    → StandsAt c.args.first c.args.held.now.items c.args.body.now.items text → ChunksRefuse (text ++ piece) fault in
    handed P c.from_residual.result c.in_err-step.field-0.0 c.from_residual.ensures
    (λ other text stands.
    refused_behind text piece rest used c.in_err-step.field-0.0 same
    (c.in_err-step.ensures.err other (text ++ take used piece) (c.loop-used.invariant.stands text stands)))
