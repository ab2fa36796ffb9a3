-- Words of a form are taken by clap, and so are their values.
use Rattle.std.proofs.Common.{◌≡◌, ◌∙◌, ◌&&◌, ◌≤◌, ℕ, true, false, List, [], ◌++◌, ap, ap₂, refl, sym, subst, map, append-nil, drop}
use Rattle.std.specs.List.{flat_map, fold}
use Rattle.clap.specs.Walk.{Row, Text, Walk, finished, nothing_held, rows_after, settled_rows, walk_from, with_default}
use Rattle.clap.specs.Simple.{Shape, built, label_of, matches_of, names_of}
use Rattle.clap.specs.Takes.{level_passes, settle_passes, takes, walk_passes}
use Rattle.clap.proofs.TakesLemmas.{leaf_takes}
use Rattle.ld_words.specs.Forms.{AreWordsOf, options_of}
use Rattle.ld_words.specs.Options.{Given, option_words, times_given}
use Rattle.ld_words.specs.Syntax.{app_of_form, place_names}
use Rattle.ld_words.specs.declared.form.FormName.{FormName}
use Rattle.ld_words.proofs.DefaultLemmas.{Completes, completes}
use Rattle.ld_words.proofs.FormSyntaxLemmas.{defaults_pass, knows, lacks_options, no_subs, places_lead, rows_of_places, shape_of_form, simple, valid}
use Rattle.ld_words.proofs.RowsLemmas.{row_of_option}
use Rattle.ld_words.proofs.StepLemmas.{Leads, Rests, end_of, leads_on}
use Rattle.ld_words.proofs.WalkedLemmas.{many}

abbrev start : Walk
start = walk_from nothing_held

-- the rows of what stands at the places and of the options
abbrev pub rows_of_words : List Text → List Given → List Row
rows_of_words places given = rows_of_places place_names places ++ map row_of_option given

-- the words behind the command lead to their rows
words_lead : (form : FormName) (words places : List Text) (given : List Given) → AreWordsOf form words places given →
    (position : ℕ) × Leads (shape_of_form form) start (drop 1 words) position (rows_of_words places given)
words_lead form words places given are =
    let s = shape_of_form form in
    let there = places_lead form places are.places_are in
    let written = are.options_are.written in
    let same : drop 1 words ≡ places ++ flat_map option_words written = ap (drop 1) are.words_are ∙ ap (λ ws. places ++ ws) are.options_are.words_are in
    let position : ℕ = there.0 in
    let leads : Leads s start (places ++ flat_map option_words written) position (rows_of_words places (map (λ w. w.option) written)) =
    leads_on s start places (flat_map option_words written) position position (rows_of_places place_names places) _ there.1 (λ w rests.
    many s (options_of form) (knows form) (rows_of_places place_names places) (lacks_options places) position written [] w
    (subst (λ rows. Rests s w position rows) (sym (append-nil (rows_of_places place_names places))) rests)
    are.options_are.each (λ n. subst (λ gs. times_given n gs ≤ 1) are.options_are.given_are (are.options_are.once n))) in (
      position,
      subst (λ ws. Leads s start ws position (rows_of_words places given)) (sym same)
          (subst (λ gs. Leads s start (places ++ flat_map option_words written) position (rows_of_words places gs)) (sym are.options_are.given_are) leads),
    )

nothing_more : (s : Shape) (w : Walk) → walk_passes s [] w [] ≡ true
unfolding walk_passes
nothing_more s w = refl

-- clap takes what leads somewhere
level_takes : (form : FormName) (words : List Text) (position : ℕ) (rows : List Row) → Leads (shape_of_form form) start words position rows →
    level_passes (shape_of_form form) [] nothing_held words false ≡ true
level_takes form words position rows leads =
    let s = shape_of_form form in
    let walks : walk_passes s [] start words ≡ true = ap (walk_passes s [] start) (sym (append-nil words)) ∙ leads.takes [] ∙ nothing_more s (end_of s start words) in
    let settles : settle_passes s.rules s.args_override_self (end_of s start words).held ≡ true =
    ap (λ (w : Walk). settle_passes s.rules s.args_override_self w.held) leads.rests.is ∙ leads.rests.passes in
    ap₂ (λ a b. a && b) walks (ap₂ (λ a b. a && b) settles (ap₂ (λ a b. a && b) (defaults_pass form) (valid form (finished s.rules (end_of s start words).held))))

-- clap takes words of a form
pub takes_words : (form : FormName) (words places : List Text) (given : List Given) → AreWordsOf form words places given → takes (app_of_form form) words ≡ true
takes_words form words places given are =
    let there = words_lead form words places given are in
    ap₂ (λ a b. a && b) (simple form) (leaf_takes (built (app_of_form form)) nothing_held (drop 1 words) (no_subs form)
    (level_takes form (drop 1 words) there.0 (rows_of_words places given) there.1))

-- and its rows are what stands at the places, the options, and what it adds
pub rows_taken : (form : FormName) (words places : List Text) (given : List Given) → AreWordsOf form words places given →
    Completes (rows_of_words places given) (matches_of (app_of_form form) words)
rows_taken form words places given are =
    let s = shape_of_form form in
    let there = words_lead form words places given are in
    let rests = there.1.rests in
    let last : settled_rows s.rules (end_of s start (drop 1 words)).held.pending (end_of s start (drop 1 words)).held.rows ≡ rows_of_words places given =
    ap (λ (w : Walk). settled_rows s.rules w.held.pending w.held.rows) rests.is ∙ rests.gives in
    let unnamed : names_of (built (app_of_form form)) ≡ [] = ap (map label_of) (no_subs form) in
    let same : matches_of (app_of_form form) words ≡ fold with_default (rows_of_words places given) s.rules =
    ap (λ names. rows_after s.rules names (drop 1 words)) unnamed ∙ ap (λ rows. fold with_default rows s.rules) last in
    subst (λ rows. Completes (rows_of_words places given) rows) (sym same) (completes form (rows_of_words places given))
