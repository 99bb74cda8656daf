-- Matches: their rules, one after the other.
use Rattle.std.proofs.Common.{◌≡◌, ℕ, ◌+◌, ◌<◌, ◌≤◌, List, [], length, map, drop, get_or, refl, sym, ap, ◌∙◌, subst, Option, Some, None}
use Rattle.std.specs.Prelude.{Result, Ok, Err}
use Rattle.std.specs.Option.{option_map}
use Rattle.cm_base.specs.declared.fault.Fault.{Fault}
use Rattle.sml_trees.specs.declared.name.At.{At}
use Rattle.sml_trees.specs.declared.exp.Rule.{Rule, out-Rule}
use Rattle.semantic_objects.specs.declared.name.TyId.{TyId}
use Rattle.unification.specs.Types.{Ty}
use Rattle.unification.specs.Unification.{depth}
use Rattle.type_nodes.specs.Tables.{Table, Has, type_of}
use Rattle.sml_modules.specs.Graphs.{Graph}
use Rattle.sml_types.proofs.Frames.{drop_past}
use Rattle.name_trails.specs.Trails.{Rows}
use Rattle.bare_phrases.specs.Phrases.{PatPhrase, ExpPhrase, Rules}
use Rattle.bare_phrases.specs.PhraseOf.{pat_phrase, exp_phrase, rule_phrase, rules_of}
use Rattle.bare_phrases.proofs.Forms.{rule_phrase-kept}
use Rattle.static_semantics.specs.BasicTypes.{arrow_ty}
use Rattle.static_semantics.specs.Inferring.{Progress, Scope, Answer, ◌>>=◌, gives, Bound, under_bound, unify_at}
use Rattle.static_semantics.specs.PatternInference.{pat_at, infer_pat}
use Rattle.static_semantics.specs.CoreInference.{exp_at, infer_exp, infer_rules}
use Rattle.core_scopes.specs.Scopes.{Bindings}
use Rattle.type_phrases.specs.Inferred.{Answers, Inferred, KeepsTypes, progress}
use Rattle.type_phrases.proofs.Keeping.{keeps_all, keeps_later}
use Rattle.pattern_elab.specs.declared.own.OwnVariable.{OwnVariable}
use Rattle.pattern_elab.specs.Scopes.{bound_of, IsCoreScope}
use Rattle.pattern_elab.specs.Steps.{IsPat}
use Rattle.pattern_elab.proofs.Scoping.{core_later}
use Rattle.core_rules.specs.Rules.{IsRule}
use Rattle.core_rules.specs.declared.matching.RuleType.{RuleType}
use Rattle.core_rules.specs.Moments.{Moment, moment, scope_at, progress_at, IsCoreAt, typed_as, Passes, Elabs}
use Rattle.core_rules.specs.Expressions.{IsUnder, IsMatch, IsRulePat, IsTypedRule, bound_at, sides_in, HasSides, sides_at, HasFirst, as_first, infer_rule, match_on}
use Rattle.core_rules.proofs.Entering.{left_row}
use Rattle.core_rules.proofs.Chains.{passes_table, passes_then, scope_kept, stops, goes_on, ruled, answers_stop}

-- ---- steps by the first rule

-- the types of the first rule stay what they were
from_later : (a b : Table) (first : Option RuleType) → KeepsTypes a b → HasFirst a first
    → option_map (type_of b) (option_map (λ (sides : RuleType). sides.from) first)
    ≡ option_map (λ (f : Ty × Ty). f.0) (option_map (sides_in a) first)
from_later a b None k h = refl
from_later a b (Some sides) k h = ap (λ (u : Ty). Some u) (k.types sides.from h.0)

to_later : (a b : Table) (first : Option RuleType) → KeepsTypes a b → HasFirst a first
    → option_map (type_of b) (option_map (λ (sides : RuleType). sides.to) first)
    ≡ option_map (λ (f : Ty × Ty). f.1) (option_map (sides_in a) first)
to_later a b None k h = refl
to_later a b (Some sides) k h = ap (λ (u : Ty). Some u) (k.types sides.to h.1)

-- a pattern, and the variables that it bound
abbrev read_pat : Rows OwnVariable → Moment → TyId → Ty × Bound × Progress
read_pat bound m a = (type_of m.table a, bound_of bound, progress_at m)

pub pattern : {m : Moment} {new : Table} {before bound : Rows OwnVariable} {r : Result TyId Fault} (p : PatPhrase)
    → IsCoreAt m → before ≡ [] → IsPat m.graph m.table m.scope p new before bound r
    → Elabs m (λ sc. infer_pat depth sc p [] (progress_at m)) (read_pat bound) Has (moment m.graph new m.scope) r
pattern {m} {new} {before} {bound} {r} p core e h =
    let k : IsPat m.graph m.table m.scope p new [] bound r =
    subst (λ (z : Rows OwnVariable). IsPat m.graph m.table m.scope p new z bound r) e h in
    record {
      infers = k.infers;
      has = k.has;
      goes = passes_table m new m.scope k.goes.ids;
      left = refl;
      core = core_later m.graph m.table new m.scope k.goes.ids core;
    }

abbrev Row : Type 0
Row = PatPhrase × ExpPhrase

abbrev rule_end : Ty → Scope → Ty × Progress → Answer ((Ty × Ty) × Progress)
rule_end u sc r = gives ((u, r.0), r.1)

abbrev rule_last : Option (Ty × Ty) → Row → Ty → Scope → Ty × Progress → Answer ((Ty × Ty) × Progress)
rule_last first row u sc e =
    as_first sc (exp_at row.1) (option_map (λ (f : Ty × Ty). f.1) first) e.0 e.1 >>= rule_end u sc

abbrev rule_rest : Option (Ty × Ty) → Row → Scope → Ty × Bound × Progress → Answer ((Ty × Ty) × Progress)
rule_rest first row sc p = infer_exp depth (under_bound p.1 sc) row.1 p.2 >>= rule_last first row p.0 sc

abbrev pat_end : Bound → Scope → Ty × Progress → Answer (Ty × Bound × Progress)
pat_end b sc f = gives (f.0, b, f.1)

abbrev pat_rest : Option (Ty × Ty) → PatPhrase → Scope → Ty × Bound × Progress → Answer (Ty × Bound × Progress)
pat_rest first pat sc p =
    as_first sc (pat_at pat) (option_map (λ (f : Ty × Ty). f.0) first) p.0 p.2 >>= pat_end p.1 sc

-- a step by the first rule's type, with that type as it was before the rule
abbrev IsStep : Moment → At → Option TyId → TyId → Table → Result TyId Fault → Type 0
IsStep m at x a new r =
    IsRule m.graph m.table new (λ sc. as_first sc at (option_map (type_of m.table) x) (type_of m.table a) (progress_at m))
    r

step : (m : Moment) (new : Table) (at at' : At) (x : Option TyId) (y : Option Ty) (a : TyId) (r : Result TyId Fault)
    → IsCoreAt m → at' ≡ at → option_map (type_of m.table) x ≡ y → IsStep m at' x a new r
    → Elabs m (λ sc. as_first sc at y (type_of m.table a) (progress_at m)) typed_as Has (moment m.graph new m.scope) r
step m new at at' x y a r core e f h =
    ruled {m = m} core
    (subst (λ (z : At). IsRule m.graph m.table new (λ sc. as_first sc z y (type_of m.table a) (progress_at m)) r) e
    (subst (λ (z : Option Ty). IsRule m.graph m.table new (λ sc. as_first sc at' z (type_of m.table a) (progress_at m))
    r) f h))

abbrev first_types : Table → Option RuleType → Option (Ty × Ty)
first_types t first = option_map (sides_in t) first

from_step : (m m1 : Moment) (new : Table) (at at' : At) (first : Option RuleType) (x : Option TyId) (a : TyId)
    (r : Result TyId Fault) → IsCoreAt m1 → KeepsTypes m.table m1.table → HasFirst m.table first → at' ≡ at
    → x ≡ option_map (λ (sides : RuleType). sides.from) first → IsStep m1 at' x a new r
    → Elabs m1 (λ sc. as_first sc at (option_map (λ (f : Ty × Ty). f.0) (first_types m.table first))
    (type_of m1.table a) (progress_at m1)) typed_as Has (moment m1.graph new m1.scope) r
from_step m m1 new at at' first x a r core k h e f l =
    step m1 new at at' x (option_map (λ (f : Ty × Ty). f.0) (first_types m.table first)) a r core e
    (ap (λ (z : Option TyId). option_map (type_of m1.table) z) f ∙ from_later m.table m1.table first k h) l

to_step : (m m1 : Moment) (new : Table) (at at' : At) (first : Option RuleType) (x : Option TyId) (a : TyId)
    (r : Result TyId Fault) → IsCoreAt m1 → KeepsTypes m.table m1.table → HasFirst m.table first → at' ≡ at
    → x ≡ option_map (λ (sides : RuleType). sides.to) first → IsStep m1 at' x a new r
    → Elabs m1 (λ sc. as_first sc at (option_map (λ (f : Ty × Ty). f.1) (first_types m.table first))
    (type_of m1.table a) (progress_at m1)) typed_as Has (moment m1.graph new m1.scope) r
to_step m m1 new at at' first x a r core k h e f l =
    step m1 new at at' x (option_map (λ (f : Ty × Ty). f.1) (first_types m.table first)) a r core e
    (ap (λ (z : Option TyId). option_map (type_of m1.table) z) f ∙ to_later m.table m1.table first k h) l

as_rule : {old new : Moment} {r : Result RuleType Fault} (first : Option RuleType) (x : Rule)
    → IsTypedRule old first (pat_phrase (out-Rule x).pat, exp_phrase (out-Rule x).exp) new r
    → IsTypedRule old first (rule_phrase x) new r
as_rule {old} {new} {r} first x h =
    subst (λ (row : PatPhrase × ExpPhrase). IsTypedRule old first row new r) (sym (rule_phrase-kept x)) h

abbrev row_of : Rule → Row
row_of x = (pat_phrase (out-Rule x).pat, exp_phrase (out-Rule x).exp)

-- ---- the pattern of a rule

module _ {m : Moment} {t1 : Table} {before bound : Rows OwnVariable} (first : Option RuleType) (p : PatPhrase) where
  pub pat_first : {e : Fault} → IsCoreAt m → before ≡ [] → IsPat m.graph m.table m.scope p t1 before bound (Err e)
      → IsRulePat m first p (moment m.graph t1 m.scope) (Err e)
  pat_first {e} core empty h = stops (pat_rest (first_types m.table first) p) (pattern {m = m} p core empty h)

  pub pat_second : {t2 : Table} {a : TyId} {e : Fault} {place : At} {chosen : Option TyId} → IsCoreAt m → before ≡ []
      → IsPat m.graph m.table m.scope p t1 before bound (Ok a) → HasFirst m.table first → place ≡ pat_at p
      → chosen ≡ option_map (λ (sides : RuleType). sides.from) first
      → IsStep (moment m.graph t1 m.scope) place chosen a t2 (Err e)
      → IsRulePat m first p (moment m.graph t2 m.scope) (Err e)
  pat_second {t2} {a} {e} {place} {chosen} core empty h has at by k =
      let q = pattern {m = m} p core empty h in
      goes_on (pat_rest (first_types m.table first) p) core q
      (stops (pat_end (bound_of bound))
      (from_step m (moment m.graph t1 m.scope) t2 (pat_at p) place first chosen a (Err e) q.core h.goes.ids has at by
      k))

  pub pat_done : {t2 : Table} {a from : TyId} {place : At} {chosen : Option TyId} → IsCoreAt m → before ≡ []
      → IsPat m.graph m.table m.scope p t1 before bound (Ok a) → HasFirst m.table first → place ≡ pat_at p
      → chosen ≡ option_map (λ (sides : RuleType). sides.from) first
      → IsStep (moment m.graph t1 m.scope) place chosen a t2 (Ok from)
      → IsRulePat m first p (moment m.graph t2 m.scope) (Ok (from, bound))
  pat_done {t2} {a} {from} {place} {chosen} core empty h has at by k =
      let q = pattern {m = m} p core empty h in
      let step = from_step m (moment m.graph t1 m.scope) t2 (pat_at p) place first chosen a (Ok from) q.core
      h.goes.ids has at by k in
      let ends : Elabs (moment m.graph t2 m.scope) (λ sc. pat_end (bound_of bound) sc (
        type_of t2 from,
        progress t2
            m.graph,
      )) bound_at (λ t r. Has t r.0) (moment m.graph t2 m.scope) (Ok (from, bound)) =
      record {
        infers = refl;
        has = k.has;
        goes = passes_table (moment m.graph t2 m.scope) t2 m.scope (keeps_all t2);
        left = refl;
        core = step.core;
      } in
      goes_on (pat_rest (first_types m.table first) p) core q (goes_on (pat_end (bound_of bound)) q.core step ends)

pub two_later : (g : Graph) (t0 t1 t2 : Table) (sc : Bindings OwnVariable) → IsCoreScope g t0 sc → KeepsTypes t0 t1
    → KeepsTypes t1 t2 → IsCoreScope g t2 sc
two_later g t0 t1 t2 sc core h k = core_later g t1 t2 sc k (core_later g t0 t1 sc h core)

-- ---- one rule

module _ {m0 m1 : Moment} (first : Option RuleType) (x : Rule) where
  pub rule_first : {e : Fault} → IsRulePat m0 first (pat_phrase (out-Rule x).pat) m1 (Err e)
      → IsTypedRule m0 first (rule_phrase x) m1 (Err e)
  rule_first h = as_rule first x (stops (rule_rest (first_types m0.table first) (row_of x)) h)

  pub rule_second : {m2 : Moment} {from : TyId} {bound : Rows OwnVariable} {e : Fault} → IsCoreAt m0
      → IsRulePat m0 first (pat_phrase (out-Rule x).pat) m1 (Ok (from, bound))
      → IsUnder m1 bound (exp_phrase (out-Rule x).exp) m2 (Err e)
      → IsTypedRule m0 first (rule_phrase x) m2 (Err e)
  rule_second {m2} {from} {bound} {e} core h k =
      as_rule first x (goes_on (rule_rest (first_types m0.table first) (row_of x)) core h
      (stops (rule_last (first_types m0.table first) (row_of x) (type_of m1.table from)) k))

  pub rule_third : {m2 : Moment} {new : Table} {from b : TyId} {bound : Rows OwnVariable} {e : Fault} {place : At}
      {chosen : Option TyId} → IsCoreAt m0
      → IsRulePat m0 first (pat_phrase (out-Rule x).pat) m1 (Ok (from, bound))
      → IsUnder m1 bound (exp_phrase (out-Rule x).exp) m2 (Ok b) → HasFirst m0.table first
      → place ≡ exp_at (exp_phrase (out-Rule x).exp) → chosen ≡ option_map (λ (sides : RuleType). sides.to) first
      → IsStep m2 place chosen b new (Err e)
      → IsTypedRule m0 first (rule_phrase x) (moment m2.graph new m2.scope) (Err e)
  rule_third {m2} {new} {from} {b} {bound} {e} {place} {chosen} core h k has at by l =
      as_rule first x (goes_on (rule_rest (first_types m0.table first) (row_of x)) core h
      (goes_on (rule_last (first_types m0.table first) (row_of x) (type_of m1.table from)) h.core k
      (stops (rule_end (type_of m1.table from))
      (to_step m0 m2 new (exp_at (exp_phrase (out-Rule x).exp)) place first chosen b (Err e) k.core
      (keeps_later m0.table m1.table m2.table h.goes.ids k.goes.ids) has at by l))))

  pub rule_done : {m2 : Moment} {new : Table} {from b to : TyId} {bound : Rows OwnVariable} {place : At}
      {chosen : Option TyId} → IsCoreAt m0
      → IsRulePat m0 first (pat_phrase (out-Rule x).pat) m1 (Ok (from, bound))
      → IsUnder m1 bound (exp_phrase (out-Rule x).exp) m2 (Ok b) → HasFirst m0.table first
      → place ≡ exp_at (exp_phrase (out-Rule x).exp) → chosen ≡ option_map (λ (sides : RuleType). sides.to) first
      → IsStep m2 place chosen b new (Ok to)
      → IsTypedRule m0 first (rule_phrase x) (moment m2.graph new m2.scope) (Ok (record { from = from; to = to }))
  rule_done {m2} {new} {from} {b} {to} {bound} {place} {chosen} core h k has at by l =
      let keeps : KeepsTypes m1.table new = keeps_later m1.table m2.table new k.goes.ids l.ids in
      let step = to_step m0 m2 new (exp_at (exp_phrase (out-Rule x).exp)) place first chosen b (Ok to) k.core
      (keeps_later m0.table m1.table m2.table h.goes.ids k.goes.ids) has at by l in
      let ends : Elabs (moment m2.graph new m2.scope)
      (λ sc. rule_end (type_of m1.table from) sc (type_of new to, progress new m2.graph)) sides_at HasSides
      (moment m2.graph new m2.scope) (Ok (record { from = from; to = to })) =
      record {
        infers = ap (λ (u : Ty). gives ((u, type_of new to), progress new m2.graph)) (sym (keeps.types from h.has));
        has = (keeps.ids from h.has, l.has);
        goes = passes_table (moment m2.graph new m2.scope) new m2.scope (keeps_all new);
        left = refl;
        core = step.core;
      } in
      as_rule first x (goes_on (rule_rest (first_types m0.table first) (row_of x)) core h
      (goes_on (rule_last (first_types m0.table first) (row_of x) (type_of m1.table from)) h.core k
      (goes_on (rule_end (type_of m1.table from)) k.core step ends)))

-- ---- all rules

-- a match is its first rule and the rest, whose types are those of the first one
abbrev Sides : Type 0
Sides = (Ty × Ty) × Progress

abbrev same_step : Ty → Progress → Answer (Ty × Progress)
same_step u s = gives (u, s)

abbrev ended : Ty → Ty × Progress → Answer Sides
ended u r = gives ((u, r.0), r.1)

abbrev bound_end : Bound → Ty × Progress → Answer (Ty × Bound × Progress)
bound_end b f = gives (f.0, b, f.1)

under_alone : {A : Type 0} (n : Answer (Ty × Progress)) (u : Ty) (k : Ty → Ty → Progress → Answer A)
    → (n >>= λ e. k u e.0 e.1)
    ≡ ((n >>= λ e. same_step e.0 e.1 >>= ended u) >>= λ (w : Sides). k w.0.0 w.0.1 w.1)
under_alone None u k = refl
under_alone (Some (Err d)) u k = refl
under_alone (Some (Ok e)) u k = refl

alone : {A : Type 0} (m : Answer (Ty × Bound × Progress)) (f : Bound → Progress → Answer (Ty × Progress))
    (k : Ty → Ty → Progress → Answer A)
    → (m >>= λ p. f p.1 p.2 >>= λ e. k p.0 e.0 e.1)
    ≡ (((m >>= λ p. same_step p.0 p.2 >>= bound_end p.1) >>= λ p. f p.1 p.2 >>= λ e. same_step e.0 e.1 >>= ended p.0)
    >>= λ (w : Sides). k w.0.0 w.0.1 w.1)
alone None f k = refl
alone (Some (Err d)) f k = refl
alone (Some (Ok p)) f k = under_alone (f p.1 p.2) p.0 k

joined_last : {A : Type 0} (n : Answer Progress) (from to : Ty) (rest : Ty → Ty → Progress → Answer Progress)
    (k : Ty → Ty → Progress → Answer A)
    → ((n >>= rest from to) >>= k from to)
    ≡ (((n >>= same_step to) >>= ended from) >>= λ (w : Sides). rest w.0.0 w.0.1 w.1 >>= k w.0.0 w.0.1)
joined_last None from to rest k = refl
joined_last (Some (Err d)) from to rest k = refl
joined_last (Some (Ok s)) from to rest k = refl

joined_under : {A : Type 0} (n : Answer (Ty × Progress)) (l : Ty → Progress → Answer Progress) (from to : Ty)
    (rest : Ty → Ty → Progress → Answer Progress) (k : Ty → Ty → Progress → Answer A)
    → ((n >>= λ e. l e.0 e.1 >>= rest from to) >>= k from to)
    ≡ ((n >>= λ e. (l e.0 e.1 >>= same_step to) >>= ended from)
    >>= λ (w : Sides). rest w.0.0 w.0.1 w.1 >>= k w.0.0 w.0.1)
joined_under None l from to rest k = refl
joined_under (Some (Err d)) l from to rest k = refl
joined_under (Some (Ok e)) l from to rest k = joined_last (l e.0 e.1) from to rest k

joined_pat : {A : Type 0} (n : Answer Progress) (b : Bound) (f : Bound → Progress → Answer (Ty × Progress))
    (l : Ty → Progress → Answer Progress) (from to : Ty) (rest : Ty → Ty → Progress → Answer Progress)
    (k : Ty → Ty → Progress → Answer A)
    → ((n >>= λ s. f b s >>= λ e. l e.0 e.1 >>= rest from to) >>= k from to)
    ≡ ((((n >>= same_step from) >>= bound_end b)
    >>= λ p. f p.1 p.2 >>= λ e. (l e.0 e.1 >>= same_step to) >>= ended p.0)
    >>= λ (w : Sides). rest w.0.0 w.0.1 w.1 >>= k w.0.0 w.0.1)
joined_pat None b f l from to rest k = refl
joined_pat (Some (Err d)) b f l from to rest k = refl
joined_pat (Some (Ok s)) b f l from to rest k = joined_under (f b s) l from to rest k

joined : {A : Type 0} (m : Answer (Ty × Bound × Progress)) (h : Ty → Progress → Answer Progress)
    (f : Bound → Progress → Answer (Ty × Progress)) (l : Ty → Progress → Answer Progress) (from to : Ty)
    (rest : Ty → Ty → Progress → Answer Progress) (k : Ty → Ty → Progress → Answer A)
    → ((m >>= λ p. h p.0 p.2 >>= λ s. f p.1 s >>= λ e. l e.0 e.1 >>= rest from to) >>= k from to)
    ≡ (((m >>= λ p. (h p.0 p.2 >>= same_step from) >>= bound_end p.1)
    >>= λ p. f p.1 p.2 >>= λ e. (l e.0 e.1 >>= same_step to) >>= ended p.0)
    >>= λ (w : Sides). rest w.0.0 w.0.1 w.1 >>= k w.0.0 w.0.1)
joined None h f l from to rest k = refl
joined (Some (Err d)) h f l from to rest k = refl
joined (Some (Ok p)) h f l from to rest k = joined_pat (h p.0 p.2) p.1 f l from to rest k

one_rule : (sc : Scope) (first : Option (Ty × Ty)) (row : Row) (rest : Rules) (st : Progress)
    → match_on sc first (Rules.Rule row.0 row.1 rest) st
    ≡ (infer_rule sc first row st >>= λ q. match_on sc (Some q.0) rest q.1)
one_rule sc None row rest st =
    alone (infer_pat depth sc row.0 [] st) (λ b s. infer_exp depth (under_bound b sc) row.1 s)
    (λ u v s. infer_rules depth sc u v rest s >>= same_step (arrow_ty u v))
one_rule sc (Some first) row rest st =
    joined (infer_pat depth sc row.0 [] st) (λ u s. unify_at depth sc (pat_at row.0) u first.0 s)
    (λ b s. infer_exp depth (under_bound b sc) row.1 s) (λ u s. unify_at depth sc (exp_at row.1) u first.1 s)
    first.0 first.1 (λ u v s. infer_rules depth sc u v rest s) (λ u v s. same_step (arrow_ty u v) s)

-- the rules of a list
abbrev pub listed : List Rule → Rules
listed rules = rules_of (map rule_phrase rules)

-- what holds before a rule: what is left gives what the whole gives
pub record MatchSoFar (begun now : Moment) (all : List Rule) (i : ℕ) (first : Option RuleType) : Type 0 where
  pub left : match_on (scope_at begun) None (listed all) (progress_at begun)
      ≡ match_on (scope_at begun) (option_map (sides_in now.table) first) (listed (drop i all)) (progress_at now)
  pub has : HasFirst now.table first
  pub goes : Passes begun now
  pub same : now.scope ≡ begun.scope
  pub begins : IsCoreAt begun
  pub core : IsCoreAt now

pub match_begin : (m : Moment) (all : List Rule) → IsCoreAt m → MatchSoFar m m all 0 None
match_begin m all core = record {
  left = refl;
  has = tt;
  goes = passes_table m m.table m.scope (keeps_all m.table);
  same = refl;
  begins = core;
  core = core;
}

-- what is left begins with this rule
match_at : (begun now : Moment) (all : List Rule) (i : ℕ) (first : Option RuleType) (x : Rule)
    → MatchSoFar begun now all i first → i < length all → x ≡ get_or all i x
    → match_on (scope_at begun) None (listed all) (progress_at begun)
    ≡ (infer_rule (scope_at begun) (option_map (sides_in now.table) first) (rule_phrase x) (progress_at now)
    >>= λ q. match_on (scope_at begun) (Some q.0) (listed (drop (i + 1) all)) q.1)
match_at begun now all i first x s h e =
    s.left
    ∙ ap (λ rules. match_on (scope_at begun) (option_map (sides_in now.table) first) (listed rules) (progress_at now))
    (left_row all i x h e)
    ∙ one_rule (scope_at begun) (option_map (sides_in now.table) first) (rule_phrase x) (listed (drop (i + 1) all))
    (progress_at now)

-- a rule's answer in the scope of the whole
rule_begun : {begun now new : Moment} {r : Result RuleType Fault} (first : Option RuleType) (row : Row)
    → IsCoreAt begun → Passes begun now → now.scope ≡ begun.scope → IsTypedRule now first row new r
    → Answers (infer_rule (scope_at begun) (option_map (sides_in now.table) first) row (progress_at now)) (sides_at new)
    r
rule_begun {begun} {now} {new} {r} first row core p e k =
    subst (λ sc. Answers (infer_rule sc (option_map (sides_in now.table) first) row (progress_at now)) (sides_at new)
    r) (scope_kept core p e) k.infers

pub match_next : {begun now new : Moment} {all : List Rule} {i : ℕ} {first : Option RuleType} {x : Rule}
    {sides : RuleType} → MatchSoFar begun now all i first → i < length all → x ≡ get_or all i x
    → IsTypedRule now first (rule_phrase x) new (Ok sides) → MatchSoFar begun new all (i + 1) (Some sides)
match_next {begun} {now} {new} {all} {i} {first} {x} {sides} s h e k = record {
  left = match_at begun now all i first x s h e
      ∙ ap (λ (m : Answer ((Ty × Ty) × Progress)). m >>= λ q. match_on (scope_at begun) (Some q.0)
      (listed (drop (i + 1) all)) q.1) (rule_begun first (rule_phrase x) s.begins s.goes s.same k);
  has = k.has;
  goes = passes_then s.goes k.goes;
  same = k.left ∙ s.same;
  begins = s.begins;
  core = k.core;
}

pub match_fails : {begun now new : Moment} {all : List Rule} {i : ℕ} {first : Option RuleType} {x : Rule} {e : Fault}
    → MatchSoFar begun now all i first → i < length all → x ≡ get_or all i x
    → IsTypedRule now first (rule_phrase x) new (Err e) → IsMatch begun (listed all) new (Err e)
match_fails {begun} {now} {new} {all} {i} {first} {x} {e} s h q k =
    let on : (Ty × Ty) × Progress → Answer (Ty × Progress) =
    λ w. match_on (scope_at begun) (Some w.0) (listed (drop (i + 1) all)) w.1 in
    record {
      infers = subst (λ m. Inferred m (Err e) new.table new.graph) (sym (match_at begun now all i first x s h q))
          (answers_stop (infer_rule (scope_at begun) (option_map (sides_in now.table) first) (rule_phrase x)
          (progress_at now)) on (sides_at new) (typed_as new) e (rule_begun first (rule_phrase x) s.begins s.goes s.same k));
      has = tt;
      goes = passes_then s.goes k.goes;
      left = k.left ∙ s.same;
      core = k.core;
    }

pub match_ends : {begun now : Moment} {new : Table} {all : List Rule} {i : ℕ} {first : Option RuleType}
    {r : Result TyId Fault} → MatchSoFar begun now all i first → length all ≤ i
    → IsRule now.graph now.table new
    (λ sc. match_on sc (option_map (sides_in now.table) first) Rules.EndOfRules (progress_at now)) r
    → IsMatch begun (listed all) (moment now.graph new now.scope) r
match_ends {begun} {now} {new} {all} {i} {first} {r} s h k = record {
  infers = subst (λ m. Inferred m r new now.graph)
      (sym (s.left
      ∙ ap (λ rules. match_on (scope_at begun) (option_map (sides_in now.table) first) (listed rules) (progress_at now))
      (drop_past all i h)))
      (subst (λ sc. Inferred (match_on sc (option_map (sides_in now.table) first) Rules.EndOfRules (progress_at now)) r
      new now.graph) (scope_kept s.begins s.goes s.same) (k.infers now.scope));
  has = k.has;
  goes = passes_then s.goes (passes_table now new now.scope k.ids);
  left = s.same;
  core = core_later now.graph now.table new now.scope k.ids s.core;
}
