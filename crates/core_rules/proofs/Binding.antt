-- The plain bindings of a `val`, one after another.
use Rattle.std.proofs.Common.{◌≡◌, ℕ, zero, suc, List, [], ◌∷◌, ◌++◌, length, drop, take, refl, sym, ap, ap₂, ◌∙◌, subst, Some, None, true}
use Rattle.std.specs.Prelude.{Result, Ok, Err, IsErrAnd}
use Rattle.std.proofs.Math.Seq.{take-length}
use Rattle.cm_base.specs.declared.fault.Fault.{Fault}
use Rattle.cm_base.specs.declared.fault.Fault.TheVariants as fault
use Rattle.sml_trees.specs.declared.name.At.{At}
use Rattle.semantic_objects.specs.declared.name.TyId.{TyId}
use Rattle.unification.specs.Types.{Ty}
use Rattle.unification.specs.Unification.{depth}
use Rattle.type_nodes.specs.Tables.{Table, Has, type_of}
use Rattle.name_trails.specs.Trails.{Rows}
use Rattle.bare_phrases.specs.Phrases.{PatPhrase, ExpPhrase, Rules}
use Rattle.bare_phrases.specs.PhraseOf.{rules_of}
use Rattle.static_semantics.specs.Inferring.{Progress, Scope, Answer, ◌>>=◌, gives, Bound, unify_at}
use Rattle.static_semantics.specs.Nonexpansive.{is_nonexpansive}
use Rattle.static_semantics.specs.PatternInference.{pat_at, infer_pat}
use Rattle.static_semantics.specs.CoreInference.{Group, added, joined, infer_exp, infer_binds}
use Rattle.static_semantics.specs.RuleConditions.{are_distinct, groups_bound}
use Rattle.static_semantics.specs.Holding.{Given}
use Rattle.type_phrases.specs.Inferred.{Answers, KeepsTypes}
use Rattle.type_phrases.proofs.Keeping.{keeps_all}
use Rattle.pattern_elab.specs.declared.own.OwnVariable.{OwnVariable}
use Rattle.pattern_elab.specs.Scopes.{own_ty, bound_of}
use Rattle.pattern_elab.specs.Steps.{IsPat, BindsOn}
use Rattle.pattern_elab.proofs.Scoping.{core_later}
use Rattle.core_rules.specs.Rules.{IsRule}
use Rattle.core_rules.specs.Moments.{Moment, moment, scope_at, progress_at, IsCoreAt, typed_as, Passes, Elabs}
use Rattle.core_rules.specs.Expressions.{IsExp}
use Rattle.core_rules.proofs.Chains.{passes_table, passes_then, scope_kept, stops, goes_on, ruled, answers_stop, memory}
use Rattle.closing_laws.proofs.Names.{pat_once, groups_more}
use Rattle.core_rules.specs.Bindings.{infer_bind, read_binds, Nothing, BindsBehind, IsBind, AreBinds}

-- ---- one binding and those behind it

last_bind : {A : Type 0} (n : Answer Progress) (ty : Ty) (b : Bound) (gs : List Group)
    (k : Bound → List Group → Progress → Answer A)
    → (n >>= λ u. k b gs u)
    ≡ (((n >>= λ u. gives (ty, u)) >>= λ (q : Ty × Progress). gives (b, gs, q.1))
    >>= λ (r : Bound × List Group × Progress). k r.0 r.1 r.2)
last_bind None ty b gs k = refl
last_bind (Some (Err d)) ty b gs k = refl
last_bind (Some (Ok u)) ty b gs k = refl

exp_bind : {A : Type 0} (n : Answer (Ty × Progress)) (h : Ty → Progress → Answer Progress) (ty : Ty) (b : Bound)
    (gs : List Group) (k : Bound → List Group → Progress → Answer A)
    → (n >>= λ e. h e.0 e.1 >>= λ u. k b gs u)
    ≡ ((n >>= λ e. (h e.0 e.1 >>= λ u. gives (ty, u)) >>= λ (q : Ty × Progress). gives (b, gs, q.1))
    >>= λ (r : Bound × List Group × Progress). k r.0 r.1 r.2)
exp_bind None h ty b gs k = refl
exp_bind (Some (Err d)) h ty b gs k = refl
exp_bind (Some (Ok e)) h ty b gs k = last_bind (h e.0 e.1) ty b gs k

pat_bind : {A : Type 0} (m : Answer (Ty × Bound × Progress)) (f : Progress → Answer (Ty × Progress))
    (h : Ty → Ty → Progress → Answer Progress) (g : Bound → List Group)
    (k : Bound → List Group → Progress → Answer A)
    → (m >>= λ p. f p.2 >>= λ e. h p.0 e.0 e.1 >>= λ u. k p.1 (g p.1) u)
    ≡ ((m >>= λ p. f p.2 >>= λ e. (h p.0 e.0 e.1 >>= λ u. gives (p.0, u))
    >>= λ (q : Ty × Progress). gives (p.1, g p.1, q.1))
    >>= λ (r : Bound × List Group × Progress). k r.0 r.1 r.2)
pat_bind None f h g k = refl
pat_bind (Some (Err d)) f h g k = refl
pat_bind (Some (Ok p)) f h g k = exp_bind (f p.2) (h p.0) p.0 p.1 (g p.1) k

abbrev pub Row : Type 0
Row = PatPhrase × ExpPhrase

abbrev others : Scope → Rules → Bound × List Group × Progress → Answer (Bound × List Group × Progress)
others sc rest r = infer_binds depth sc rest r.0 r.1 r.2

one_bind : (sc : Scope) (row : Row) (rest : Rules) (bound : Bound) (groups : List Group) (st : Progress)
    → infer_binds depth sc (Rules.Rule row.0 row.1 rest) bound groups st
    ≡ (infer_bind sc row bound groups st >>= others sc rest)
one_bind sc row rest bound groups st =
    pat_bind (infer_pat depth sc row.0 bound st) (λ s. infer_exp depth sc row.1 s)
    (λ u v s. unify_at depth sc (pat_at row.0) u v s)
    (λ b. groups ++ (is_nonexpansive sc.env row.1, added bound b) ∷ [])
    (λ b gs s. infer_binds depth sc rest b gs s)

-- ---- a pattern after variables bound before

abbrev read_pat : Rows OwnVariable → Moment → TyId → Ty × Bound × Progress
read_pat bound m a = (type_of m.table a, bound_of bound, progress_at m)

pattern : {m : Moment} {new : Table} {before after : Rows OwnVariable} {r : Result TyId Fault} (p : PatPhrase)
    → IsCoreAt m → IsPat m.graph m.table m.scope p new before after r
    → Elabs m (λ sc. infer_pat depth sc p (bound_of before) (progress_at m)) (read_pat after) Has
    (moment m.graph new m.scope) r
pattern {m} {new} {before} {after} {r} p core h = record {
  infers = h.infers;
  has = h.has;
  goes = passes_table m new m.scope h.goes.ids;
  left = refl;
  core = core_later m.graph m.table new m.scope h.goes.ids core;
}

-- ---- one binding

pub length_bound : (rows : Rows OwnVariable) → length (bound_of rows) ≡ length rows
length_bound [] = refl
length_bound (row ∷ rows) = ap (λ (n : ℕ). suc n) (length_bound rows)

take_bound : (n : ℕ) (rows : Rows OwnVariable) → take n (bound_of rows) ≡ bound_of (take n rows)
take_bound zero rows = refl
take_bound (suc n) [] = refl
take_bound (suc n) (row ∷ rows) = ap (λ (z : Bound). (row.0, own_ty row.1) ∷ z) (take_bound n rows)

front_bound : (before after : Rows OwnVariable) → take (length before) after ≡ before
    → take (length (bound_of before)) (bound_of after) ≡ bound_of before
front_bound before after h =
    ap (λ n. take n (bound_of after)) (length_bound before) ∙ take_bound (length before) after ∙ ap bound_of h

abbrev ends_with : Row → Bound → List Group → Bound → Scope → Ty × Progress → Answer (Bound × List Group × Progress)
ends_with row bound groups b sc q =
    gives (b, groups ++ (is_nonexpansive sc.env row.1, added bound b) ∷ [], q.1)

abbrev after_exp : Row → Bound → List Group → Ty → Bound → Scope → Ty × Progress
    → Answer (Bound × List Group × Progress)
after_exp row bound groups u b sc e =
    joined depth sc (pat_at row.0) u e.0 e.1 >>= ends_with row bound groups b sc

abbrev after_pat : Row → Bound → List Group → Scope → Ty × Bound × Progress → Answer (Bound × List Group × Progress)
after_pat row bound groups sc p =
    infer_exp depth sc row.1 p.2 >>= after_exp row bound groups p.0 p.1 sc

differ_on : (sc : Scope) (pat : PatPhrase) (bound : Bound) (st : Progress) (r : Ty × Bound × Progress)
    → infer_pat depth sc pat bound st ≡ gives r → are_distinct bound ≡ true → are_distinct r.1 ≡ true
differ_on sc pat bound st r h d =
    subst (Given (λ (q : Ty × Bound × Progress). are_distinct q.1 ≡ true)) h (pat_once depth sc pat bound st d)

fails_behind : {old new : Table} {before after : Rows OwnVariable} {groups more : List Group} {e : Fault}
    → BindsOn old new before after → BindsBehind before after groups more (Err e)
fails_behind h = record { front = h.front; whole = λ k. tt; distinct = λ k. tt }

-- the rule, with the pattern's type as it was made
pub joins : {t1 : Table} {m2 : Moment} {new : Table} {r : Result TyId Fault} (row : Row) (a b : TyId) (place : At)
    → IsCoreAt m2
    → KeepsTypes t1 m2.table → Has t1 a → place ≡ pat_at row.0
    → IsRule m2.graph m2.table new (λ sc. joined depth sc place (type_of m2.table a) (type_of m2.table b)
    (progress_at m2)) r
    → Elabs m2 (λ sc. joined depth sc (pat_at row.0) (type_of t1 a) (type_of m2.table b) (progress_at m2)) typed_as
    Has (moment m2.graph new m2.scope) r
joins {t1} {m2} {new} {r} row a b place core k has at l =
    ruled core
    (subst (λ (z : At). IsRule m2.graph m2.table new (λ sc. joined depth sc z (type_of t1 a) (type_of m2.table b)
    (progress_at m2)) r) at
    (subst (λ u. IsRule m2.graph m2.table new (λ sc. joined depth sc place u (type_of m2.table b) (progress_at m2)) r)
    (k.types a has) l))

module _ {m0 : Moment} {t1 : Table} {before after : Rows OwnVariable} (row : Row) (groups : List Group) where
  pub bind_first : {more : List Group} {e : Fault} → IsCoreAt m0
      → IsPat m0.graph m0.table m0.scope row.0 t1 before after (Err e)
      → IsBind m0 row before after groups more (moment m0.graph t1 m0.scope) (Err e)
  bind_first core h = record {
    elabs = stops (after_pat row (bound_of before) groups) (pattern {m = m0} row.0 core h);
    behind = fails_behind h.goes;
  }

  pub bind_second : {m2 : Moment} {more : List Group} {a : TyId} {e : Fault} → IsCoreAt m0
      → IsPat m0.graph m0.table m0.scope row.0 t1 before after (Ok a)
      → IsExp (moment m0.graph t1 m0.scope) row.1 m2 (Err e) → IsBind m0 row before after groups more m2 (Err e)
  bind_second {m2} {more} {a} {e} core h k =
      let p = pattern {m = m0} row.0 core h in
      record {
        elabs = goes_on (after_pat row (bound_of before) groups) core p
            (stops (after_exp row (bound_of before) groups (type_of t1 a) (bound_of after)) k);
        behind = fails_behind h.goes;
      }

  pub bind_third : {m2 : Moment} {new : Table} {more : List Group} {a b : TyId} {e : Fault} {place : At} → IsCoreAt m0
      → IsPat m0.graph m0.table m0.scope row.0 t1 before after (Ok a)
      → IsExp (moment m0.graph t1 m0.scope) row.1 m2 (Ok b) → place ≡ pat_at row.0
      → IsRule m2.graph m2.table new (λ sc. joined depth sc place (type_of m2.table a) (type_of m2.table b)
      (progress_at m2)) (Err e)
      → IsBind m0 row before after groups more (moment m2.graph new m2.scope) (Err e)
  bind_third {m2} {new} {more} {a} {b} {e} {place} core h k at l =
      let p = pattern {m = m0} row.0 core h in
      record {
        elabs = goes_on (after_pat row (bound_of before) groups) core p
            (goes_on (after_exp row (bound_of before) groups (type_of t1 a) (bound_of after)) p.core k
            (stops (ends_with row (bound_of before) groups (bound_of after))
            (joins row a b place k.core k.goes.ids h.has at l)));
        behind = fails_behind h.goes;
      }

  pub bind_memory : {m2 : Moment} {new : Table} {more : List Group} {a b c : TyId} {place : At} → IsCoreAt m0
      → IsPat m0.graph m0.table m0.scope row.0 t1 before after (Ok a)
      → IsExp (moment m0.graph t1 m0.scope) row.1 m2 (Ok b) → place ≡ pat_at row.0
      → IsRule m2.graph m2.table new (λ sc. joined depth sc place (type_of m2.table a) (type_of m2.table b)
      (progress_at m2)) (Ok c)
      → IsBind m0 row before after groups more (moment m2.graph new m2.scope) (Err fault.NoMemory)
  bind_memory {m2} {new} {more} {a} {b} {c} {place} core h k at l =
      let p = pattern {m = m0} row.0 core h in
      let q = joins row a b place k.core k.goes.ids h.has at l in
      record {
        elabs = memory (passes_then p.goes (passes_then k.goes q.goes)) (q.left ∙ k.left ∙ p.left) q.core;
        behind = fails_behind h.goes;
      }

  pub bind_done : {m2 : Moment} {new : Table} {more : List Group} {a b c : TyId} {place : At} (start : ℕ)
      → IsCoreAt m0 → IsPat m0.graph m0.table m0.scope row.0 t1 before after (Ok a)
      → IsExp (moment m0.graph t1 m0.scope) row.1 m2 (Ok b) → place ≡ pat_at row.0
      → IsRule m2.graph m2.table new (λ sc. joined depth sc place (type_of m2.table a) (type_of m2.table b)
      (progress_at m2)) (Ok c)
      → start ≡ length before
      → more ≡ groups ++ (
        is_nonexpansive (scope_at (moment m2.graph new m2.scope)).env row.1,
        drop start (bound_of after),
      ) ∷ []
      → IsBind m0 row before after groups more (moment m2.graph new m2.scope) (Ok tt)
  bind_done {m2} {new} {more} {a} {b} {c} {place} start core h k at l s f =
      let m3 : Moment = moment m2.graph new m2.scope in
      let p = pattern {m = m0} row.0 core h in
      let q = joins row a b place k.core k.goes.ids h.has at l in
      let here : ℕ = length (bound_of before) in
      let same : more ≡ groups ++ (is_nonexpansive (scope_at m3).env row.1, added (bound_of before) (bound_of after))
      ∷ [] = f ∙ ap (λ (n : ℕ). groups ++ (is_nonexpansive (scope_at m3).env row.1, drop n (bound_of after)) ∷ [])
      (s ∙ sym (length_bound before)) in
      let ends : Elabs m3 (λ sc. ends_with row (bound_of before) groups (bound_of after) sc (typed_as m3 c))
      (read_binds after more) Nothing m3 (Ok tt) =
      record {
        infers = ap (λ (gs : List Group). gives (bound_of after, gs, progress_at m3)) (sym same);
        has = tt;
        goes = passes_table m3 new m2.scope (keeps_all new);
        left = refl;
        core = q.core;
      } in
      record {
        elabs = goes_on (after_pat row (bound_of before) groups) core p
            (goes_on (after_exp row (bound_of before) groups (type_of t1 a) (bound_of after)) p.core k
            (goes_on (ends_with row (bound_of before) groups (bound_of after)) k.core q ends));
        behind = record {
          front = h.goes.front;
          whole = λ g. ap groups_bound same ∙ groups_more groups (is_nonexpansive (scope_at m3).env row.1)
              (bound_of before) (bound_of after) g (front_bound before after h.goes.front);
          distinct = λ d. differ_on (scope_at m0) row.0 (bound_of before) (progress_at m0)
              (type_of t1 a, bound_of after, progress_at (moment m0.graph t1 m0.scope)) h.infers d;
        };
      }

-- ---- all of them

pub record BindsSoFar (begun now : Moment) (rows left : List Row) (before here : Rows OwnVariable)
    (groups more : List Group) : Type 0 where
  pub left_is : infer_binds depth (scope_at begun) (rules_of rows) (bound_of before) groups (progress_at begun)
      ≡ infer_binds depth (scope_at begun) (rules_of left) (bound_of here) more (progress_at now)
  pub goes : Passes begun now
  pub same : now.scope ≡ begun.scope
  pub begins : IsCoreAt begun
  pub core : IsCoreAt now
  pub behind : BindsBehind before here groups more (Ok tt)

pub binds_begin : (m : Moment) (rows : List Row) (bound : Rows OwnVariable) (groups : List Group) → IsCoreAt m
    → BindsSoFar m m rows rows bound bound groups groups
binds_begin m rows bound groups core = record {
  left_is = refl;
  goes = passes_table m m.table m.scope (keeps_all m.table);
  same = refl;
  begins = core;
  core = core;
  behind = record { front = take-length bound; whole = λ k. k; distinct = λ k. k };
}

take_later : {A : Type 0} (a b c : List A) → take (length a) b ≡ a → take (length b) c ≡ b → take (length a) c ≡ a
take_later [] b c h k = refl
take_later (x ∷ a) [] c h k = absurd (cc)
take_later (x ∷ a) (y ∷ b) [] h k = absurd (cc)
take_later {A} (x ∷ a) (y ∷ b) (z ∷ c) h k =
    let i : take (length a) b ≡ a = cc in
    let j : take (length b) c ≡ b = cc in
    let e : y ≡ x = cc in
    let f : z ≡ y = cc in
    ap₂ (λ (w : A) ws. w ∷ ws) (f ∙ e) (take_later a b c i j)

behind_then : (a b c : Rows OwnVariable) (x y z : List Group) (r : Result (Unit {0}) Fault)
    → BindsBehind a b x y (Ok tt) → BindsBehind b c y z r → BindsBehind a c x z r
behind_then a b c x y z r h k = record {
  front = take_later a b c h.front k.front;
  whole = λ g. k.whole (h.whole g);
  distinct = λ d. k.distinct (h.distinct d);
}

-- what is left begins with this binding
bind_at : {begun now : Moment} {rows left rest : List Row} {row : Row} {before here : Rows OwnVariable}
    {groups more : List Group} → BindsSoFar begun now rows left before here groups more → left ≡ row ∷ rest
    → infer_binds depth (scope_at begun) (rules_of rows) (bound_of before) groups (progress_at begun)
    ≡ (infer_bind (scope_at begun) row (bound_of here) more (progress_at now) >>= others (scope_at begun) (rules_of rest))
bind_at {begun} {now} {rows} {left} {rest} {row} {before} {here} {groups} {more} s e =
    s.left_is
    ∙ ap (λ (z : List Row). infer_binds depth (scope_at begun) (rules_of z) (bound_of here) more (progress_at now)) e
    ∙ one_bind (scope_at begun) row (rules_of rest) (bound_of here) more (progress_at now)

bind_begun : {begun now new : Moment} {row : Row} {here after : Rows OwnVariable} {more further : List Group}
    {r : Result (Unit {0}) Fault} → IsCoreAt begun → Passes begun now → now.scope ≡ begun.scope
    → IsBind now row here after more further new r
    → Answers (infer_bind (scope_at begun) row (bound_of here) more (progress_at now)) (read_binds after further new) r
bind_begun {begun} {now} {new} {row} {here} {after} {more} {further} {r} core p e k =
    subst (λ sc. Answers (infer_bind sc row (bound_of here) more (progress_at now)) (read_binds after further new) r)
    (scope_kept core p e) k.elabs.infers

pub binds_next : {begun now new : Moment} {rows left rest : List Row} {row : Row} {before here after : Rows OwnVariable}
    {groups more further : List Group} → BindsSoFar begun now rows left before here groups more → left ≡ row ∷ rest
    → IsBind now row here after more further new (Ok tt) → BindsSoFar begun new rows rest before after groups further
binds_next {begun} {now} {new} {rows} {left} {rest} {row} {before} {here} {after} {groups} {more} {further} s e k =
    record {
      left_is = bind_at s e
          ∙ ap (λ (m : Answer (Bound × List Group × Progress)). m >>= others (scope_at begun) (rules_of rest))
          (bind_begun s.begins s.goes s.same k);
      goes = passes_then s.goes k.elabs.goes;
      same = k.elabs.left ∙ s.same;
      begins = s.begins;
      core = k.elabs.core;
      behind = behind_then before here after groups more further (Ok tt) s.behind k.behind;
    }

pub binds_fail : {begun now new : Moment} {rows left rest : List Row} {row : Row} {before here after : Rows OwnVariable}
    {groups more further : List Group} {e : Fault} → BindsSoFar begun now rows left before here groups more
    → left ≡ row ∷ rest → IsBind now row here after more further new (Err e)
    → AreBinds begun rows before after groups further new (Err e)
binds_fail {begun} {now} {new} {rows} {left} {rest} {row} {before} {here} {after} {groups} {more} {further} {e} s f k =
    record {
      elabs = record {
        infers = subst (λ (w : Answer (Bound × List Group × Progress)). Answers w (read_binds after further new) (Err e))
            (sym (bind_at s f))
            (answers_stop (infer_bind (scope_at begun) row (bound_of here) more (progress_at now))
            (others (scope_at begun) (rules_of rest)) (read_binds after further new) (read_binds after further new) e
            (bind_begun s.begins s.goes s.same k));
        has = tt;
        goes = passes_then s.goes k.elabs.goes;
        left = k.elabs.left ∙ s.same;
        core = k.elabs.core;
      };
      behind = behind_then before here after groups more further (Err e) s.behind k.behind;
    }

pub binds_end : {begun now : Moment} {rows left : List Row} {before here : Rows OwnVariable} {groups more : List Group}
    → BindsSoFar begun now rows left before here groups more → left ≡ []
    → AreBinds begun rows before here groups more now (Ok tt)
binds_end {begun} {now} {rows} {left} {before} {here} {groups} {more} s e = record {
  elabs = record {
    infers = s.left_is
        ∙ ap (λ (z : List Row). infer_binds depth (scope_at begun) (rules_of z) (bound_of here) more (progress_at now)) e;
    has = tt;
    goes = s.goes;
    left = s.same;
    core = s.core;
  };
  behind = s.behind;
}

-- what holds of an error holds where it is passed on
pub passed_on : {R : Type 0} (P : Result R Fault → Type 0) (r : Result R Fault) (e : Fault) → IsErrAnd r (λ f. f ≡ e)
    → P (Err e) → P r
passed_on P (Ok x) e h k = absurd h
passed_on P (Err f) e h k = subst (λ (z : Fault). P (Err z)) (sym h) k

pub bind_of : {old new : Moment} {row other : Row} {before after : Rows OwnVariable} {groups more : List Group}
    {r : Result (Unit {0}) Fault} → row ≡ other → IsBind old other before after groups more new r
    → IsBind old row before after groups more new r
bind_of {old} {new} {row} {other} {before} {after} {groups} {more} {r} e h =
    subst (λ (z : Row). IsBind old z before after groups more new r) (sym e) h
