use Rattle.std.proofs.Common.{◌≡◌, ◌∙◌, sym, rules}
use Rattle.ld_course.specs.Course.{course_of}
use Rattle.ld_course.proofs.FirstLemmas.{close_tells, drop_tells, none_due, nothing_tells}
use Rattle.ld_machine.specs.Plan.{hard_moment}
use Rattle.ld_machine.proofs.ListLemmas.{Contains-from_In}
use Rattle.ld_iters.proofs.SlotsLemmas.{slots_no_arrivals}
use Rattle.ld_iters.proofs.SlotsTellLemmas.{release_wished, start_wished, take_wished}
use Rattle.ld_iters.proofs.slot_iters.SlotIters.next_act.Goals as goal

pub returns-in-Some : goal.returns-in-Some
returns-in-Some c = record {
  first = λ s shows n users free.
      let chosen = c.in-Some.ensures.some s shows in
      release_wished c.args.self.now s shows n users c.args.reading c.args.prefer c.in-Some.user chosen.0 chosen.1;
}

pub returns-in-Some-to_take : goal.returns-in-Some-to_take
returns-in-Some-to_take c = record {
  first = λ s shows n users free.
      take_wished c.args.self.now s shows n users c.args.reading c.args.prefer (c.in_default.ensures.none s n shows) c.in-Some-to_take.slot
      (c.in-Some-to_take.ensures.first s shows) (free ∙ c.in-Some-to_take.ensures.free);
}

pub returns-in-Some-to_start : goal.returns-in-Some-to_start
returns-in-Some-to_start c = record {
  first = λ s shows n users free.
      let course : c.self.inside.course ≡ course_of s = search rules in
      let lasts : hard_moment s.part ≡ c.hard_moment.result = sym (c.hard_moment.ensures s course) in
      let chosen = c.in-Some-to_start.ensures.some s shows in
      start_wished c.args.self.now s shows n users c.args.reading c.args.prefer (c.in_default.ensures.none s n shows)
      (c.in_default-to_take.ensures.none s n users shows free) c.in-Some-to_start.user chosen.0 c.in-Some-to_start.item c.hard_moment.result c.args.reading
      chosen.1 chosen.2 lasts;
}

pub returns-in-Some-to_drop : goal.returns-in-Some-to_drop
returns-in-Some-to_drop c = record {
  first = λ s shows n users free.
      drop_tells n users s c.args.reading c.args.prefer (slots_no_arrivals c.args.self.now s shows) (c.in_default.ensures.none s n shows)
      (c.in_default-to_take.ensures.none s n users shows free) (λ h at. c.in_default-to_start.ensures.none s h shows (Contains-from_In h at))
      c.in-Some-to_drop.item c.args.reading (sym (c.in-Some-to_drop.ensures s shows));
}

pub returns-then-may_close : goal.returns-then-may_close
returns-then-may_close c = record {
  first = λ s shows n users free.
      close_tells n users s c.args.reading c.args.prefer (c.in_default.ensures.none s n shows) (c.in_default-to_take.ensures.none s n users shows free)
      (none_due s c.args.reading (slots_no_arrivals c.args.self.now s shows)) (λ h at. c.in_default-to_start.ensures.none s h shows (Contains-from_In h at))
      (sym (c.in_default-to_drop.ensures s shows)) (sym (c.may_close.ensures s shows) ∙ c.if-may_close.true);
}

pub returns-else-may_close : goal.returns-else-may_close
returns-else-may_close c = record {
  first = λ s shows n users free.
      nothing_tells n users s c.args.reading c.args.prefer (c.in_default.ensures.none s n shows) (c.in_default-to_take.ensures.none s n users shows free)
      (none_due s c.args.reading (slots_no_arrivals c.args.self.now s shows)) (λ h at. c.in_default-to_start.ensures.none s h shows (Contains-from_In h at))
      (sym (c.in_default-to_drop.ensures s shows)) (sym (c.may_close.ensures s shows) ∙ c.if-may_close.false);
}
