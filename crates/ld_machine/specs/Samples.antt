-- When a tally fits, as a test that computes.
use Rattle.std.specs.Prelude.{ℕ, Bool, not, ◌&&◌, ◌||◌, ◌==◌, ◌^◌, nat_le, nat_lt, List, length, slice_get, false}
use Rattle.std.specs.List.{list_all}
use Rattle.std.specs.Option.{option_map_or}
use Rattle.ld_base.specs.declared.metric.NameSpec.{NameSpec}
use Rattle.ld_base.specs.declared.sample.Sample.{Sample}
use Rattle.ld_base.specs.Tally.{TallyView}

-- a sample has zeros outside `sent`
abbrev pub is_addition : Sample → Bool
is_addition sample =
    (sample.status == 0) && (sample.span == 0) && (sample.received == 0) && not sample.failed && (sample.check_bits == 0)

-- each check bit belongs to a check of the name, and a counter's sample has zeros outside `sent`
abbrev pub is_sample_of : Sample → NameSpec → Bool
is_sample_of sample name = nat_lt sample.check_bits (2 ^ name.checks) && (not name.counter || is_addition sample)

-- the sample's name is one of the test's, and the sample is one of that name
abbrev pub is_named : List NameSpec → Sample → Bool
is_named names sample = option_map_or (is_sample_of sample) (slice_get names sample.name) false

-- a tally fits a script: it has no more samples than the script's room, and each is one of a name of the test
abbrev pub tally_fits : List NameSpec → ℕ → TallyView → Bool
tally_fits names room tally = nat_le (length tally.samples) room && list_all (is_named names) tally.samples
