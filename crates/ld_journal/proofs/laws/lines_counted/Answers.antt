use Rattle.std.proofs.Common.{◌+◌, ◌∙◌, ap, sym}
use Rattle.ld_line.specs.Line.{line_feeds}
use Rattle.ld_journal.proofs.CountLemmas.{counted}
use Rattle.ld_journal.proofs.FeedLemmas.{feeds_counted}
use Rattle.ld_journal.proofs.laws.lines_counted.Goals as goal

pub returns-clause-lines : goal.returns-clause-lines
returns-clause-lines c = counted

pub returns-clause-feeds : goal.returns-clause-feeds
returns-clause-feeds c header entries segment sequence =
    feeds_counted header entries segment sequence ∙ ap (λ n. line_feeds header.test + n) (sym (counted header entries))
