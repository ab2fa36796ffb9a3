-- The scenarios as they stand behind a change of one share.
use Rattle.std.proofs.Common.{◌≡◌, ◌∙◌, ℕ, zero, suc, List, [], ◌∷◌, length, Option, None, Some, map, set, arith, refl, sym, ap, slice_get}
use Rattle.std.specs.Option.{option_map_or}
use Rattle.ld_base.specs.declared.act.Act.{Act}
use Rattle.ld_base.specs.declared.act.Act.TheVariants.{Take, Grow, Start, Drop, Late, Return, Release, Stop, Close, Control}
use Rattle.ld_base.specs.declared.command.Command.TheVariants as commands
use Rattle.ld_base.specs.declared.entry.Entry.{Entry}
use Rattle.ld_machine.specs.Plan.{Part, Plan}
use Rattle.ld_machine.specs.State.{Busy, Share, Controls, State, opening_share}
use Rattle.ld_machine.specs.Scenario.{Scenario}
use Rattle.ld_machine.specs.Moves.{scenarios_with}
use Rattle.ld_machine.specs.Commands.{stop_commanded_share}
use Rattle.ld_machine.specs.Effect.{put_condition, end_item, change_at, change_share, end_item_of, after_act, after_entry, after_entries}

-- the changed share is set in its place
pub change_sets : (n : ℕ) (change : Share → Share) (share : Share) (shares : List Share) → slice_get shares n ≡ Some share →
    change_at n change shares ≡ set shares n (change share)
change_sets n change share [] h = absurd (cc)
change_sets zero change share (x ∷ rest) h = let same : x ≡ share = cc in ap (λ s. change s ∷ rest) same
change_sets (suc n) change share (x ∷ rest) h = ap (λ xs. x ∷ xs) (change_sets n change share rest h)

pub stands_with : (controls : Controls) (parts : List Part) (shares : List Share) (n : ℕ) (part : Part) (share : Share) → slice_get parts n ≡ Some part → slice_get shares n ≡ Some share →
    slice_get (scenarios_with controls parts shares) n ≡ Some (record { part = part; share = share; controls = controls })
stands_with controls [] shares n part share at_part at_share = absurd (cc)
stands_with controls (p ∷ parts) [] n part share at_part at_share = absurd (cc)
stands_with controls (p ∷ parts) (x ∷ shares) zero part share at_part at_share =
    let same_part : p ≡ part = cc in
    let same_share : x ≡ share = cc in
    rw (same_part, same_share) refl
stands_with controls (p ∷ parts) (x ∷ shares) (suc n) part share at_part at_share = stands_with controls parts shares n part share at_part at_share

pub controls_with : (controls : Controls) (parts : List Part) (shares : List Share) (n : ℕ) (s : Scenario) → slice_get (scenarios_with controls parts shares) n ≡ Some s → s.controls ≡ controls
controls_with controls [] shares n s h = absurd (cc)
controls_with controls (part ∷ parts) [] n s h = absurd (cc)
controls_with controls (part ∷ parts) (share ∷ shares) zero s h =
    let same : record { part = part; share = share; controls = controls } ≡ s = cc in sym (ap (λ (x : Scenario). x.controls) same)
controls_with controls (part ∷ parts) (share ∷ shares) (suc n) s h = controls_with controls parts shares n s h

pub length-with : (controls : Controls) (parts : List Part) (shares : List Share) → length parts ≡ length shares → length (scenarios_with controls parts shares) ≡ length parts
length-with controls [] shares same = refl
length-with controls (part ∷ parts) [] same = absurd (omega arith)
length-with controls (part ∷ parts) (share ∷ shares) same = let later = length-with controls parts shares (omega arith) in omega arith

pub scenarios_set : (controls : Controls) (parts : List Part) (shares : List Share) (n : ℕ) (change : Share → Share) (s : Scenario) → slice_get (scenarios_with controls parts shares) n ≡ Some s →
    scenarios_with controls parts (change_at n change shares) ≡ set (scenarios_with controls parts shares) n (record s { share = change s.share })
scenarios_set controls [] shares n change s h = absurd (cc)
scenarios_set controls (part ∷ parts) [] n change s h = absurd (cc)
scenarios_set controls (part ∷ parts) (share ∷ shares) zero change s h =
    let same : record { part = part; share = share; controls = controls } ≡ s = cc in
    ap (λ (x : Scenario). record x { share = change x.share } ∷ scenarios_with controls parts shares) same
scenarios_set controls (part ∷ parts) (share ∷ shares) (suc n) change s h =
    ap (λ xs. record { part = part; share = share; controls = controls } ∷ xs) (scenarios_set controls parts shares n change s h)

-- ---- as many shares as before

length-change : (n : ℕ) (change : Share → Share) (shares : List Share) → length (change_at n change shares) ≡ length shares
length-change n change [] = refl
length-change zero change (x ∷ rest) = refl
length-change (suc n) change (x ∷ rest) = ap suc (length-change n change rest)

length-stop : (t : ℕ) (shares : List Share) → length (map (stop_commanded_share t) shares) ≡ length shares
length-stop t [] = refl
length-stop t (x ∷ rest) = ap suc (length-stop t rest)

length-end : (plan : Plan) (n item : ℕ) (state : State) → length (end_item_of plan n item state).shares ≡ length state.shares
length-end plan n item state =
    let P : Option Part → Type 0 = λ o. length (option_map_or (λ part. change_share state n (end_item part item)) o state).shares ≡ length state.shares in
    elim (slice_get plan.parts n) as P [ None ↦ refl | Some part ↦ length-change n (end_item part item) state.shares ]

length-act : (plan : Plan) (state : State) (thread t : ℕ) (act : Act) → length (after_act plan state thread t act).shares ≡ length state.shares
length-act plan state thread t (Take n user slot) = length-change n _ state.shares
length-act plan state thread t (Grow n user slot) = length-change n _ state.shares
length-act plan state thread t (Start n user item until) =
    length-end plan n item (change_share state n (put_condition user (Busy thread item until))) ∙ length-change n (put_condition user (Busy thread item until)) state.shares
length-act plan state thread t (Drop n item) = length-end plan n item state
length-act plan state thread t (Late n item) = length-end plan n item state
length-act plan state thread t (Return n user item outcome tally) = length-change n _ state.shares
length-act plan state thread t (Release n user) = length-change n _ state.shares
length-act plan state thread t (Stop n) = length-change n _ state.shares
length-act plan state thread t (Close n) = length-change n _ state.shares
length-act plan state thread t (Control commands.Stop) = length-stop t state.shares
length-act plan state thread t (Control (commands.Pause b)) = refl
length-act plan state thread t (Control (commands.Vus v)) = refl
length-act plan state thread t (Control (commands.VusMax v)) = refl

pub length-entries : (plan : Plan) (entries : List Entry) (state : State) → length (after_entries plan state entries).shares ≡ length state.shares
length-entries plan [] state = refl
length-entries plan (entry ∷ rest) state =
    length-entries plan rest (after_entry plan state entry) ∙ length-act plan state entry.thread entry.reading entry.act

pub length-opening : (parts : List Part) → length (map (λ (part : Part). opening_share) parts) ≡ length parts
length-opening [] = refl
length-opening (part ∷ parts) = ap suc (length-opening parts)
