-- What the test of a tally tells.
use Rattle.std.proofs.Common.{◌≡◌, ℕ, Bool, true, false, not, ◌||◌, ◌^◌, nat_lt, nat_le, List, length, get_or, Option, None, Some, slice_get, arith, refl, IsSomeAnd}
use Rattle.std.specs.List.{list_all}
use Rattle.std.specs.Option.{option_map_or}
use Rattle.std.proofs.lemmas.Grind.{common_steps}
use Rattle.std.proofs.lemmas.List.Sums.{AllPass-from_list_all, list_all-from_AllPass}
use Rattle.ld_base.specs.Tally.{TallyView, IsAddition, IsSampleOf, TallyFits}
use Rattle.ld_base.specs.declared.metric.NameSpec.{NameSpec}
use Rattle.ld_base.specs.declared.sample.Sample.{Sample}
use Rattle.ld_machine.specs.Samples.{is_addition, is_sample_of, is_named, tally_fits}

addition_tells : (sample : Sample) → is_addition sample ≡ true → IsAddition sample
addition_tells sample h = record {
  status = grind (arith, common_steps);
  span = grind (arith, common_steps);
  received = grind (arith, common_steps);
  failed = grind (arith, common_steps);
  check_bits = grind (arith, common_steps);
}

addition_passes : (sample : Sample) → IsAddition sample → is_addition sample ≡ true
addition_passes sample h = rw (h.status, h.span, h.received, h.failed, h.check_bits) refl

sample_tells : (sample : Sample) (name : NameSpec) → is_sample_of sample name ≡ true → IsSampleOf name sample
sample_tells sample name h = record {
  checks = grind (arith, common_steps);
  counter = λ counts. addition_tells sample (grind (arith, common_steps));
}

sample_passes : (sample : Sample) (name : NameSpec) → IsSampleOf name sample → is_sample_of sample name ≡ true
sample_passes sample name h =
    let below : nat_lt sample.check_bits (2 ^ name.checks) ≡ true = grind (arith, common_steps, h.checks) in
    let P : Bool → Type 0 = λ b. (b ≡ true → IsAddition sample) → (not b || is_addition sample) ≡ true in
    let counter : P name.counter = elim name.counter as P [
      | true ↦ λ adds. addition_passes sample (adds refl)
      | false ↦ λ adds. refl
    ] in rw (below, counter h.counter) refl

named_tells : (sample : Sample) (found : Option NameSpec) →
    option_map_or (is_sample_of sample) found false ≡ true → IsSomeAnd found (λ name. IsSampleOf name sample)
named_tells sample None h = absurd (cc)
named_tells sample (Some name) h = sample_tells sample name h

named_passes : (sample : Sample) (found : Option NameSpec) →
    IsSomeAnd found (λ name. IsSampleOf name sample) → option_map_or (is_sample_of sample) found false ≡ true
named_passes sample None h = absurd h
named_passes sample (Some name) h = sample_passes sample name h

pub fits_tells : (names : List NameSpec) (room : ℕ) (tally : TallyView) → tally_fits names room tally ≡ true → TallyFits names room tally
fits_tells names room tally h =
    let all : list_all (is_named names) tally.samples ≡ true = grind (arith, common_steps) in
    record {
      within = grind (arith, common_steps);
      named = λ k d below.
          named_tells (get_or tally.samples k d) (slice_get names (get_or tally.samples k d).name)
          (AllPass-from_list_all (is_named names) tally.samples all k d below);
    }

pub fits_passes : (names : List NameSpec) (room : ℕ) (tally : TallyView) → TallyFits names room tally → tally_fits names room tally ≡ true
fits_passes names room tally h =
    let all : list_all (is_named names) tally.samples ≡ true =
    list_all-from_AllPass (is_named names) tally.samples
    (λ k d below. named_passes (get_or tally.samples k d) (slice_get names (get_or tally.samples k d).name) (h.named k d below)) in
    let within : nat_le (length tally.samples) room ≡ true = grind (arith, common_steps, h.within) in
    rw (within, all) refl
