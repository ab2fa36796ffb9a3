use Rattle.std.proofs.Common.{◌-◌, ◌≤◌, Option, Some, length-set, refl, set, subst, sym, ◌∙◌}
use Rattle.std.specs.Option.{option_map_or}
use Rattle.ld_base.specs.Stint.{StintView}
use Rattle.ld_base.specs.declared.ask.Ask.TheVariants as asks
use Rattle.ld_base.specs.declared.reply.Reply.TheVariants.{Run}
use Rattle.ld_core.specs.CoreView.{IsAsked}
use Rattle.ld_machine.specs.Moment.{last_moment}
use Rattle.ld_machine.proofs.ListLemmas.{some_not_none}
use Rattle.ld_rehearsal.specs.Dues.{due_of, play_at}
use Rattle.ld_rehearsal.proofs.ReplyLemmas.{other_reply}
use Rattle.ld_rehearsal.proofs.StageLemmas.{acted, begins_within, ended, refused, shows_begun, shows_still, waited}
use Rattle.ld_rehearsal.proofs.stage.Stage.step.Goals as goal

pub begin-requires-clause-some : goal.begin-requires-clause-some
begin-requires-clause-some c = (begins_within c.args.self.now c.ask-reply.new.self c.in-Run.stint c.requires.acting (rw (← c.in-Run.is) c.ask-reply.ensures.step)).0

pub begin-requires-clause-within : goal.begin-requires-clause-within
begin-requires-clause-within c = (begins_within c.args.self.now c.ask-reply.new.self c.in-Run.stint c.requires.acting (rw (← c.in-Run.is) c.ask-reply.ensures.step)).1

pub returns-in-Run : goal.returns-in-Run
returns-in-Run c =
    let old = c.args.self.now in
    let stint = c.in-Run.stint in
    let asked : IsAsked old.core c.ask-reply.new.self 0 asks.Act old.moment (Run stint) = rw (← c.in-Run.is) c.ask-reply.ensures.step in
    let within = begins_within old c.ask-reply.new.self stint c.requires.acting asked in
    let dues = set old.dues (stint.user - 1) (Some (due_of old.length (play_at old.moment stint))) in
    record {
      answered = rw c.begin.ensures.begun
          (acted old c.ask-reply.new.self (Run stint) dues c.requires.acting asked refl (shows_begun old stint c.requires.acting within.0 within.1)
          (length-set old.dues (stint.user - 1) (Some (due_of old.length (play_at old.moment stint))))
          (λ other is. subst (λ (o : Option StintView). option_map_or (λ (s : StintView). s.until) o 0 ≤ last_moment) is c.begin.ensures.until));
    }

pub returns-in-Wait : goal.returns-in-Wait
returns-in-Wait c = record { answered = waited c.args.self.now c.ask-reply.new.self c.requires.acting c.in-Wait.moment (rw (← c.in-Wait.is) c.ask-reply.ensures.step) }

pub returns-in-Over : goal.returns-in-Over
returns-in-Over c = record { answered = ended c.args.self.now c.ask-reply.new.self c.requires.acting (rw (← c.in-Over.is) c.ask-reply.ensures.step) }

pub returns-in-Full : goal.returns-in-Full
returns-in-Full c =
    record { answered = refused c.args.self.now c.ask-reply.new.self c.requires.acting c.in-Full.room c.in-Full.needed c.in-Full.limit (rw (← c.in-Full.is) c.ask-reply.ensures.step) }

pub returns-in_default : goal.returns-in_default
returns-in_default c =
    let old = c.args.self.now in
    let reply = c.ask-reply.result in
    let other = other_reply reply c.in_default.not-Run c.in_default.not-Wait c.in_default.not-Over c.in_default.not-Full in
    record {
      answered = acted old c.ask-reply.new.self reply old.dues c.requires.acting c.ask-reply.ensures.step other.0 (shows_still old reply c.requires.acting other.1) refl
          (λ stint is. absurd (some_not_none (sym is ∙ other.1)));
    }
