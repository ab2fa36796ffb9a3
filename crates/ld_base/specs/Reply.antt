-- which replies answer which asks
use Rattle.std.specs.Prelude.{ℕ, ◌<◌}
use Rattle.ld_base.specs.declared.ask.Ask.{Ask}
use Rattle.ld_base.specs.declared.ask.Ask.TheVariants.{Act, Return, Check, Look, Control}
use Rattle.ld_base.specs.declared.reply.Reply.{Reply}
use Rattle.ld_base.specs.declared.reply.Reply.TheVariants.{
  Run,
  Dropped,
  Late,
  Took,
  Released,
  Stopped,
  Closed,
  Noted,
  Denied,
  Go,
  Halt,
  Alive,
  Wait,
  Over,
  Full,
}

-- a reply to an act, which names a scenario below this number, or none
abbrev pub IsActReply : ℕ → Reply → Type 0
IsActReply scenarios (Run stint) = stint.scenario < scenarios
IsActReply scenarios (Dropped scenario _) = scenario < scenarios
IsActReply scenarios (Late scenario _) = scenario < scenarios
IsActReply scenarios (Took scenario _) = scenario < scenarios
IsActReply scenarios (Released scenario _) = scenario < scenarios
IsActReply scenarios (Stopped scenario) = scenario < scenarios
IsActReply scenarios (Closed scenario) = scenario < scenarios
IsActReply _ (Wait _) = Unit {0}
IsActReply _ Over = Unit {0}
IsActReply _ (Full _ _ _) = Unit {0}
IsActReply _ _ = ⊥

-- a reply to what is handed back
abbrev pub IsReturnReply : Reply → Type 0
IsReturnReply Noted = Unit {0}
IsReturnReply _ = ⊥

-- a reply to the question whether iterations go on
abbrev pub IsCheckReply : Reply → Type 0
IsCheckReply Go = Unit {0}
IsCheckReply Halt = Unit {0}
IsCheckReply _ = ⊥

-- a reply to the question for the state
abbrev pub IsLookReply : Reply → Type 0
IsLookReply (Alive _ _ _ _) = Unit {0}
IsLookReply Over = Unit {0}
IsLookReply _ = ⊥

-- a reply to a command
abbrev pub IsControlReply : Reply → Type 0
IsControlReply Noted = Unit {0}
IsControlReply Denied = Unit {0}
IsControlReply (Full _ _ _) = Unit {0}
IsControlReply _ = ⊥

-- a reply is of the kind that the ask calls for, where there are so many scenarios
abbrev pub IsReplyTo : ℕ → Ask → Reply → Type 0
IsReplyTo scenarios Act reply = IsActReply scenarios reply
IsReplyTo _ (Return _ _ _) reply = IsReturnReply reply
IsReplyTo _ (Check _) reply = IsCheckReply reply
IsReplyTo _ Look reply = IsLookReply reply
IsReplyTo _ (Control _) reply = IsControlReply reply
