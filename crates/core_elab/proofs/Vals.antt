-- A `val` by its phrase.
use Rattle.std.proofs.Common.{◌≡◌, ℕ, List, refl, sym, ap, ap₂, ◌∙◌, subst, map}
use Rattle.std.specs.Prelude.{Result, Err}
use Rattle.cm_base.specs.declared.fault.Fault.{Fault}
use Rattle.cm_base.specs.declared.fault.Fault.TheVariants as fault
use Rattle.sml_trees.specs.declared.name.At.{At}
use Rattle.sml_trees.specs.declared.name.Name.{Name}
use Rattle.sml_trees.specs.declared.exp.Rule.{Rule}
use Rattle.semantic_objects.specs.declared.name.TyId.{TyId}
use Rattle.type_nodes.specs.Tables.{Table}
use Rattle.name_trails.specs.Trails.{Rows}
use Rattle.bare_phrases.specs.Phrases.{PatPhrase, ExpPhrase, Rules, DecPhrase}
use Rattle.bare_phrases.specs.PhraseOf.{rule_phrase, rules_of}
use Rattle.static_semantics.specs.Inferring.{Scope, Answer}
use Rattle.core_scopes.specs.declared.made.Made.{Made}
use Rattle.pattern_elab.specs.declared.own.OwnVariable.{OwnVariable}
use Rattle.type_phrases.proofs.Keeping.{keeps_all}
use Rattle.core_rules.specs.Moments.{Moment, IsCoreAt, Elabs}
use Rattle.core_rules.specs.Values.{AreRecsUnder, IsValUnder, IsVal}
use Rattle.core_rules.proofs.Chains.{passes_table, memory}
use Rattle.core_elab.specs.Vals.{AreRecsOf, IsValOf, IsOfValues, binds_of}

-- the phrase of a `val` whose rules are these
pub val_phrase : {p : DecPhrase} (tyvars : List Name) (binds recs b c : List Rule) (at : At)
    → p ≡ DecPhrase.Val tyvars (rules_of (map rule_phrase binds)) (rules_of (map rule_phrase recs)) at → b ≡ binds → c ≡ recs
    → p ≡ DecPhrase.Val tyvars (rules_of (map rule_phrase b)) (rules_of (map rule_phrase c)) at
val_phrase tyvars binds recs b c at h e f = h
    ∙ ap₂ (λ x y. DecPhrase.Val tyvars (rules_of (map rule_phrase x)) (rules_of (map rule_phrase y)) at) (sym e) (sym f)

pub of_val : {old new : Moment} {r : Result (Made OwnVariable) Fault} {p : DecPhrase} (n : ℕ) (own : List (List ℕ × ℕ))
    (tyvars : List Name) (b c : List Rule) (at : At)
    → p ≡ DecPhrase.Val tyvars (rules_of (map rule_phrase b)) (rules_of (map rule_phrase c)) at
    → IsValUnder old n at own (map rule_phrase b) (map rule_phrase c) new r → IsValOf old n own p new r
of_val {old} {new} {r} n own tyvars b c at e h = subst (λ (z : DecPhrase). IsValOf old n own z new r) (sym e) h

pub as_under : {old new : Moment} {r : Result (Made OwnVariable) Fault} {p : DecPhrase} (n : ℕ) (own : List (List ℕ × ℕ))
    (tyvars : List Name) (b c : List Rule) (at : At)
    → p ≡ DecPhrase.Val tyvars (rules_of (map rule_phrase b)) (rules_of (map rule_phrase c)) at
    → IsValOf old n own p new r → IsValUnder old n at own (map rule_phrase b) (map rule_phrase c) new r
as_under {old} {new} {r} n own tyvars b c at e h = subst (λ (z : DecPhrase). IsValOf old n own z new r) e h

pub of_values : {old new : Moment} {r : Result (Made OwnVariable) Fault} {p : DecPhrase} (tyvars : List Name)
    (b c : List Rule) (at : At)
    → p ≡ DecPhrase.Val tyvars (rules_of (map rule_phrase b)) (rules_of (map rule_phrase c)) at
    → IsVal old tyvars (map rule_phrase b) (map rule_phrase c) at new r → IsOfValues old p new r
of_values {old} {new} {r} tyvars b c at e h = subst (λ (z : DecPhrase). IsOfValues old z new r) (sym e) h

pub of_recs : {old new : Moment} {r : Result (Unit {0}) Fault} {p : DecPhrase} (bound : Rows OwnVariable)
    (types : List TyId) (tyvars : List Name) (b c : List Rule) (at : At)
    → p ≡ DecPhrase.Val tyvars (rules_of (map rule_phrase b)) (rules_of (map rule_phrase c)) at
    → AreRecsUnder old bound (map rule_phrase c) types new r → AreRecsOf old bound p types new r
of_recs {old} {new} {r} bound types tyvars b c at e h =
    subst (λ (z : DecPhrase). AreRecsOf old bound z types new r) (sym e) h

pub as_recs_under : {old new : Moment} {r : Result (Unit {0}) Fault} {p : DecPhrase} (bound : Rows OwnVariable)
    (types : List TyId) (tyvars : List Name) (b c : List Rule) (at : At)
    → p ≡ DecPhrase.Val tyvars (rules_of (map rule_phrase b)) (rules_of (map rule_phrase c)) at
    → AreRecsOf old bound p types new r → AreRecsUnder old bound (map rule_phrase c) types new r
as_recs_under {old} {new} {r} bound types tyvars b c at e h =
    subst (λ (z : DecPhrase). AreRecsOf old bound z types new r) e h

-- want of memory, before anything is done
pub at_once : {W R : Type 0} {m : Moment} {want : Scope → Answer W} {reads : Moment → R → W}
    {have : Table → R → Type 0} → IsCoreAt m → Elabs m want reads have m (Err fault.NoMemory)
at_once {W} {R} {m} {want} {reads} {have} core =
    memory (passes_table m m.table m.scope (keeps_all m.table)) refl core

-- ---- behind the plain bindings

pub behind_phrase : {p : DecPhrase} (tyvars : List Name) (binds : Rules) (rows : List (PatPhrase × ExpPhrase))
    (recs c : List Rule) (at : At) → p ≡ DecPhrase.Val tyvars binds (rules_of (map rule_phrase recs)) at
    → binds_of p ≡ rules_of rows → c ≡ recs
    → p ≡ DecPhrase.Val tyvars (rules_of rows) (rules_of (map rule_phrase c)) at
behind_phrase tyvars binds rows recs c at h e f = h
    ∙ ap₂ (λ x y. DecPhrase.Val tyvars x (rules_of (map rule_phrase y)) at) (sym (ap binds_of h) ∙ e) (sym f)

pub of_rows : {old new : Moment} {r : Result (Made OwnVariable) Fault} {p : DecPhrase} (n : ℕ) (own : List (List ℕ × ℕ))
    (tyvars : List Name) (rows recs : List (PatPhrase × ExpPhrase)) (at : At)
    → p ≡ DecPhrase.Val tyvars (rules_of rows) (rules_of recs) at
    → IsValUnder old n at own rows recs new r → IsValOf old n own p new r
of_rows {old} {new} {r} n own tyvars rows recs at e h = subst (λ (z : DecPhrase). IsValOf old n own z new r) (sym e) h
