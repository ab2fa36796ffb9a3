use Rattle.std.proofs.Common.{rules, ◌≡◌, ◌≢◌, ◌≤◌, ◌+◌, ◌++◌, [], List, ℕ, length, take, drop, subst}
use Rattle.ld_wire.specs.Heads.{BehindHead, InHead, ShowsRefused, heads_view}
use Rattle.ld_wire.specs.declared.fault.WireFault.{WireFault}
use Rattle.ld_wire.specs.declared.fault.WireFault.TheVariants.{Memory}
use Rattle.ld_wire.specs.declared.framing.Follows.TheVariants.{Head}
use Rattle.ld_wire.proofs.AdvanceLemmas.{advances_behind, at_body, refused_start, stands_empty}
use Rattle.ld_wire.proofs.ChunkStepLemmas.{behind_all}
use Rattle.ld_wire.proofs.HandedLemmas.{handed}
use Rattle.ld_wire.proofs.ShownLemmas.{behind_shown}
use Rattle.ld_wire.proofs.advance.start.Goals as goal

pub split_at-requires : goal.split_at-requires
split_at-requires c = (c.in_ok-step.ensures.ok c.requires.stands.0 c.requires.stands.1).inside

pub returns-in-Ok-clause-ok : goal.returns-in-Ok-clause-ok
returns-in-Ok-clause-ok c bytes is =
    let piece = c.args.piece.now in
    let used = c.in_ok-step.step.used in
    let framing = c.in_ok-step.step.follows in
    let heads = heads_view c.take_heads.new.self in
    let takes = c.in_ok-step.ensures.ok bytes is in
    let other : framing ≢ Head = search rules in
    let at : BehindHead heads framing (bytes ++ take used piece) = at_body framing heads (bytes ++ take used piece) other takes.stands in
    let rest = c.split_at.result.1.now in
    let same : rest ≡ drop used piece = search rules in
    let held = c.args.held.now.items in
    let body = c.args.body.now.items in
    let begins = stands_empty framing c.open_body.result held body c.requires.empty.0 c.requires.empty.1 c.open_body.ensures in
    let counted : used + c.in-Ok.behind.used ≤ length piece → c.saturating_add.result ≡ used + c.in-Ok.behind.used = λ few. search rules in
    advances_behind c.in-Ok.behind.stage used c.in-Ok.behind.used c.saturating_add.result heads c.follow.new.held.items c.follow.new.body.items
    bytes piece rest takes.inside same counted
    (c.in-Ok.ensures.ok heads framing (bytes ++ take used piece) [] at begins)

pub returns-in-Err-clause-err : goal.returns-in-Err-clause-err
returns-in-Err-clause-err c other bytes is =
    let piece = c.args.piece.now in
    let used = c.in_ok-step.step.used in
    let framing = c.in_ok-step.step.follows in
    let heads = heads_view c.take_heads.new.self in
    let takes = c.in_ok-step.ensures.ok bytes is in
    let goes : framing ≢ Head = search rules in
    let at : BehindHead heads framing (bytes ++ take used piece) = at_body framing heads (bytes ++ take used piece) goes takes.stands in
    let rest = c.split_at.result.1.now in
    let same : rest ≡ drop used piece = search rules in
    let held = c.args.held.now.items in
    let body = c.args.body.now.items in
    let begins = stands_empty framing c.open_body.result held body c.requires.empty.0 c.requires.empty.1 c.open_body.ensures in
    refused_start heads.for_head c.args.heads.now.for_head bytes piece rest used c.in-Err.fault same c.in_ok-step.ensures.same
    (c.in-Err.ensures.err other heads framing (bytes ++ take used piece) [] at begins)

pub returns-in_err-step-clause-shown : goal.returns-in_err-step-clause-shown
returns-in_err-step-clause-shown c =
    let old = heads_view c.args.heads.now in
    let new = heads_view c.take_heads.new.self in
    let P : WireFault → Type 0 = λ fault. fault ≢ Memory → (bytes : List ℕ) → InHead old bytes → ShowsRefused new (bytes ++ c.args.piece.now) in
    handed P c.from_residual.result c.in_err-step.field-0.0 c.from_residual.ensures c.in_err-step.ensures.shown

pub returns-in-Err-clause-shown : goal.returns-in-Err-clause-shown
returns-in-Err-clause-shown c other bytes is =
    let piece = c.args.piece.now in
    let used = c.in_ok-step.step.used in
    let framing = c.in_ok-step.step.follows in
    let heads = heads_view c.take_heads.new.self in
    let takes = c.in_ok-step.ensures.ok bytes is in
    let goes : framing ≢ Head = search rules in
    let at : BehindHead heads framing (bytes ++ take used piece) = at_body framing heads (bytes ++ take used piece) goes takes.stands in
    let P : List ℕ → Type 0 = λ t. ShowsRefused heads t in
    subst P (behind_all bytes piece used) (behind_shown heads framing (bytes ++ take used piece) (drop used piece) at goes)
