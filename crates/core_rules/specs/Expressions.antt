-- What a call answers for an expression or a match in a scope, and what it leaves; and the steps of these. Only private
-- functions cite this file.
use Rattle.std.specs.Prelude.{[], Result, Option, None, Some}
use Rattle.std.specs.Option.{option_map}
use Rattle.cm_base.specs.declared.fault.Fault.{Fault}
use Rattle.sml_trees.specs.declared.name.At.{At}
use Rattle.sml_trees.specs.declared.name.Name.{Name}
use Rattle.semantic_objects.specs.declared.name.TyId.{TyId}
use Rattle.semantic_objects.specs.Symbols.{AreDiffering}
use Rattle.semantic_objects.specs.Tables.{Table as Named, names_of, with_entry}
use Rattle.unification.specs.Types.{Ty}
use Rattle.unification.specs.Unification.{depth}
use Rattle.type_nodes.specs.Tables.{Table, Has, type_of}
use Rattle.name_trails.specs.Trails.{Rows}
use Rattle.bare_phrases.specs.Phrases.{TyPhrase, PatPhrase, ExpPhrase, ExpFields, Rules}
use Rattle.static_semantics.specs.BasicTypes.{arrow_ty}
use Rattle.static_semantics.specs.Inferring.{Progress, Scope, Answer, ◌>>=◌, gives, Bound, under_bound, unify_at, sized_exp}
use Rattle.static_semantics.specs.TypeInference.{infer_ty, new_label}
use Rattle.static_semantics.specs.PatternInference.{pat_at, infer_pat}
use Rattle.static_semantics.specs.CoreInference.{exp_at, joined, infer_exp, infer_exp_fields, infer_match, infer_rules}
use Rattle.type_phrases.specs.Inferred.{HaveRows, made_fields}
use Rattle.pattern_elab.specs.declared.own.OwnVariable.{OwnVariable}
use Rattle.pattern_elab.specs.Scopes.{bound_of}
use Rattle.core_rules.specs.declared.matching.RuleType.{RuleType}
use Rattle.core_rules.specs.Moments.{Moment, progress_at, typed_as, Elabs}

-- an expression
abbrev pub IsExp : Moment → ExpPhrase → Moment → Result TyId Fault → Type 0
IsExp old phrase new result =
    Elabs old (λ sc. infer_exp depth sc phrase (progress_at old)) typed_as Has new result

-- .. under the variables of a pattern
abbrev pub IsUnder : Moment → Rows OwnVariable → ExpPhrase → Moment → Result TyId Fault → Type 0
IsUnder old bound phrase new result =
    Elabs old (λ sc. infer_exp depth (under_bound (bound_of bound) sc) phrase (progress_at old)) typed_as Has new result

-- a match
abbrev pub IsMatch : Moment → Rules → Moment → Result TyId Fault → Type 0
IsMatch old rules new result =
    Elabs old (λ sc. infer_match depth sc rules (progress_at old)) typed_as Has new result

-- ---- forms after their parts

-- the check of the size at the end
abbrev pub ends_sized : Scope → At → Answer (Ty × Progress) → Answer (Ty × Progress)
ends_sized sc at want = want >>= λ r. sized_exp sc at r

-- a constraint on a type, in a scope
abbrev pub infer_constraint : Scope → At → Ty → TyPhrase → Progress → Answer (Ty × Progress)
infer_constraint sc at u ty st = infer_ty sc ty >>= λ v. ends_sized sc at (joined depth sc at u v st)

abbrev pub IsConstrained : Moment → At → TyId → TyPhrase → Moment → Result TyId Fault → Type 0
IsConstrained old at id ty new result =
    Elabs old (λ sc. infer_constraint sc at (type_of old.table id) ty (progress_at old)) typed_as Has new result

-- ---- one rule of a match

-- the types of a rule's pattern and of its expression
abbrev pub sides_in : Table → RuleType → Ty × Ty
sides_in t sides = (type_of t sides.from, type_of t sides.to)

abbrev pub HasSides : Table → RuleType → Type 0
HasSides t sides = Has t sides.from × Has t sides.to

abbrev pub sides_at : Moment → RuleType → (Ty × Ty) × Progress
sides_at m sides = (sides_in m.table sides, progress_at m)

-- those of the first rule, behind that rule
abbrev pub HasFirst : Table → Option RuleType → Type 0
HasFirst t None = Unit {0}
HasFirst t (Some sides) = HasSides t sides

-- a type that is made that of the first rule, behind that rule
abbrev pub as_first : Scope → At → Option Ty → Ty → Progress → Answer (Ty × Progress)
as_first sc at None ty st = gives (ty, st)
as_first sc at (Some first) ty st = unify_at depth sc at ty first st >>= λ u. gives (first, u)

-- the pattern of a rule, and the variables that it binds
abbrev pub infer_rule_pat : Scope → Option (Ty × Ty) → PatPhrase → Progress → Answer (Ty × Bound × Progress)
infer_rule_pat sc first pat st =
    infer_pat depth sc pat [] st
    >>= λ p. as_first sc (pat_at pat) (option_map (λ (f : Ty × Ty). f.0) first) p.0 p.2
    >>= λ f. gives (f.0, p.1, f.1)

-- a rule
abbrev pub infer_rule : Scope → Option (Ty × Ty) → PatPhrase × ExpPhrase → Progress → Answer ((Ty × Ty) × Progress)
infer_rule sc first row st =
    infer_rule_pat sc first row.0 st
    >>= λ p. infer_exp depth (under_bound p.1 sc) row.1 p.2
    >>= λ e. as_first sc (exp_at row.1) (option_map (λ (f : Ty × Ty). f.1) first) e.0 e.1
    >>= λ r. gives ((p.0, r.0), r.1)

-- a match from some rule on
abbrev pub match_on : Scope → Option (Ty × Ty) → Rules → Progress → Answer (Ty × Progress)
match_on sc None rules st = infer_match depth sc rules st
match_on sc (Some first) rules st =
    infer_rules depth sc first.0 first.1 rules st >>= λ u. gives (arrow_ty first.0 first.1, u)

abbrev pub bound_at : Moment → TyId × Rows OwnVariable → Ty × Bound × Progress
bound_at m r = (type_of m.table r.0, bound_of r.1, progress_at m)

abbrev pub IsRulePat :
    Moment → Option RuleType → PatPhrase → Moment → Result (TyId × Rows OwnVariable) Fault → Type 0
IsRulePat old first pat new result =
    Elabs old (λ sc. infer_rule_pat sc (option_map (sides_in old.table) first) pat (progress_at old)) bound_at
    (λ t r. Has t r.0) new result

abbrev pub IsTypedRule :
    Moment → Option RuleType → PatPhrase × ExpPhrase → Moment → Result RuleType Fault → Type 0
IsTypedRule old first row new result =
    Elabs old (λ sc. infer_rule sc (option_map (sides_in old.table) first) row (progress_at old)) sides_at HasSides new
    result

-- ---- fields of a record

-- types by label, whose labels differ
abbrev pub fields_at : Moment → Rows TyId → Named Ty × Progress
fields_at m rows = (made_fields m.table rows, progress_at m)

abbrev pub AreLabelled : Table → Rows TyId → Type 0
AreLabelled t rows = HaveRows t rows × AreDiffering (names_of rows)

-- a field after others: 40 at a label that one of them has
abbrev pub infer_exp_field : Scope → Name × ExpPhrase → Named Ty → Progress → Answer (Named Ty × Progress)
infer_exp_field sc row made st =
    new_label sc row.0 made
    >>= λ u. infer_exp depth sc row.1 st
    >>= λ r. gives (with_entry row.0.text r.0 made, r.1)

abbrev pub AreExpFields : Moment → ExpFields → Moment → Result (Rows TyId) Fault → Type 0
AreExpFields old fields new result =
    Elabs old (λ sc. infer_exp_fields depth sc fields [] (progress_at old)) fields_at AreLabelled new result

abbrev pub IsExpField : Moment → Name × ExpPhrase → Rows TyId → Rows TyId → Moment → Result (Unit {0}) Fault → Type 0
IsExpField old row rows more new result =
    Elabs old (λ sc. infer_exp_field sc row (made_fields old.table rows) (progress_at old))
    (λ m (u : Unit {0}). fields_at m more) (λ t u. AreLabelled t more) new result
