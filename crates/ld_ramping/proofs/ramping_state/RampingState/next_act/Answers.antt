use Rattle.std.proofs.Common.{◌≡◌, ◌∙◌, ℕ, subst, sym, rules}
use Rattle.ld_base.specs.declared.wish.Wish.TheVariants.{Start}
use Rattle.ld_machine.specs.Wishes.{TellsFirst}
use Rattle.ld_course.proofs.FirstLemmas.{close_tells, none_due, nothing_tells}
use Rattle.ld_machine.proofs.ListLemmas.{Contains-from_In}
use Rattle.ld_ramping.proofs.ShownLemmas.{no_arrivals, nothing_to_drop, release_wished, start_wished, take_wished}
use Rattle.ld_ramping.proofs.ramping_state.RampingState.next_act.Goals as goal

pub returns-in-Some : goal.returns-in-Some
returns-in-Some c = record {
  first = λ s shows n users free.
      let chosen = c.in-Some.ensures.some s shows in
      release_wished c.args.self.now s shows n users c.args.reading c.args.prefer c.in-Some.user chosen.0 chosen.1;
}

pub returns-in-Some-to_take : goal.returns-in-Some-to_take
returns-in-Some-to_take c = record {
  first = λ s shows n users free.
      take_wished c.args.self.now s shows n users c.args.reading c.args.prefer (c.in_default.ensures.none s n shows) c.in-Some-to_take.slot
      (c.in-Some-to_take.ensures.least s shows) (free ∙ c.in-Some-to_take.ensures.free);
}

pub returns-in-Some-to_start : goal.returns-in-Some-to_start
returns-in-Some-to_start c = record {
  first = λ s shows n users free.
      let chosen = c.in-Some-to_start.ensures.some s shows in
      let item : c.in-Some-to_start.slot ≡ c.from.result = search rules in
      subst (λ (k : ℕ). TellsFirst n users s c.args.reading c.args.prefer (Start c.in-Some-to_start.user k c.until.result c.args.reading)) item
      (start_wished c.args.self.now s shows n users c.args.reading c.args.prefer (c.in_default.ensures.none s n shows)
      (c.in_default-to_take.ensures.none s n users shows free) c.in-Some-to_start.user c.in-Some-to_start.slot c.until.result c.args.reading
      chosen.0 chosen.1 (sym (c.until.ensures s shows)));
}

pub returns-then-may_close : goal.returns-then-may_close
returns-then-may_close c = record {
  first = λ s shows n users free.
      close_tells n users s c.args.reading c.args.prefer (c.in_default.ensures.none s n shows) (c.in_default-to_take.ensures.none s n users shows free)
      (none_due s c.args.reading (no_arrivals c.args.self.now s shows)) (λ h at. c.in_default-to_start.ensures.none s h shows (Contains-from_In h at))
      (nothing_to_drop c.args.self.now s shows c.args.reading) (sym (c.may_close.ensures s shows) ∙ c.if-may_close.true);
}

pub returns-else-may_close : goal.returns-else-may_close
returns-else-may_close c = record {
  first = λ s shows n users free.
      nothing_tells n users s c.args.reading c.args.prefer (c.in_default.ensures.none s n shows) (c.in_default-to_take.ensures.none s n users shows free)
      (none_due s c.args.reading (no_arrivals c.args.self.now s shows)) (λ h at. c.in_default-to_start.ensures.none s h shows (Contains-from_In h at))
      (nothing_to_drop c.args.self.now s shows c.args.reading) (sym (c.may_close.ensures s shows) ∙ c.if-may_close.false);
}
