-- Unification makes no new nodes.
use Rattle.std.proofs.Common.{◌≡◌, ℕ, zero, suc, refl, Option, Some, None, Bool, true, false, cond}
use Rattle.std.specs.Prelude.{Result, Ok, Err, eqb, ltb}
use Rattle.sml_trees.specs.declared.name.At.{At}
use Rattle.semantic_objects.specs.Symbols.{same_symbol}
use Rattle.unification.specs.Types.{Ty, Types, Marks, State, put, occurs, require}
use Rattle.unification.specs.Unification.{Fault, Answer, single, bound_where, assign, link_by, solve, then, unify_all, unify_step, unify_in}
use Rattle.static_semantics.specs.Inferring.{Progress, Scope, unified, unify_at}
use Rattle.static_semantics.specs.Holding.{Given}
use Rattle.inference_laws.specs.Nodes.{Nodes, TyOf, TysOf, StateOf}
use Rattle.inference_laws.proofs.Nodes.{ty_where, ty_put}

abbrev Kept : Nodes → Result State Fault → Type 0
Kept q (Ok r) = StateOf q r
Kept q (Err e) = Unit {0}

abbrev pub KeptIn : Nodes → Answer → Type 0
KeptIn q None = Unit {0}
KeptIn q (Some r) = Kept q r

kept_where : (q : Nodes) (c : Bool) (a b : Result State Fault) → Kept q a → Kept q b → Kept q (cond c a b)
kept_where q true a b h k = h
kept_where q false a b h k = k

bound_kept : (q : Nodes) (v : ℕ) (t : Ty) (s : State) (marks : Option Marks) → TyOf q t → StateOf q s
    → Kept q (bound_where v t s marks)
bound_kept q v t s None h k = tt
bound_kept q v t s (Some m) h k = λ n. ty_put q (single v t) (s.stands n)
    (λ i. ty_where q (eqb v i) t (Ty.Var i) h tt) (k n)

assign_kept : (q : Nodes) (v : ℕ) (t : Ty) (s : State) → TyOf q t → StateOf q s → Kept q (assign v t s)
assign_kept q v t s h k = bound_kept q v t s (cond (s.marks v) (require s.rigid t s.marks) (Some s.marks)) h k

link_kept : (q : Nodes) (a b : Bool) (v w : ℕ) (s : State) → StateOf q s → Kept q (link_by a b v w s)
link_kept q true true v w s h = tt
link_kept q true false v w s h = assign_kept q w (Ty.Var v) s tt h
link_kept q false true v w s h = assign_kept q v (Ty.Var w) s tt h
link_kept q false false v w s h = kept_where q (ltb v w) (assign w (Ty.Var v) s) (assign v (Ty.Var w) s)
    (assign_kept q w (Ty.Var v) s tt h) (assign_kept q v (Ty.Var w) s tt h)

solve_kept : (q : Nodes) (v : ℕ) (t : Ty) (s : State) → TyOf q t → StateOf q s → Kept q (solve v t s)
solve_kept q v t s h k = kept_where q (s.rigid v) (Err Fault.Clash) (cond (occurs v t) (Err Fault.Circular)
    (assign v t s))
    tt (kept_where q (occurs v t) (Err Fault.Circular) (assign v t s) tt (assign_kept q v t s h k))

-- what is asked of the unification of parts
abbrev Keeps : Nodes → (Ty → Ty → State → Answer) → Type 0
Keeps q rec = (a b : Ty) (s : State) → StateOf q s → TyOf q a → TyOf q b → KeptIn q (rec a b s)

then_kept : (q : Nodes) (o : Answer) (f : State → Answer) → KeptIn q o → ((m : State) → StateOf q m → KeptIn q (f m))
    → KeptIn q (then o f)
then_kept q None f h k = tt
then_kept q (Some (Err e)) f h k = tt
then_kept q (Some (Ok m)) f h k = k m h

all_kept : (q : Nodes) (rec : Ty → Ty → State → Answer) → Keeps q rec → (ts us : Types) (s : State) → StateOf q s
    → TysOf q ts → TysOf q us → KeptIn q (unify_all rec ts us s)
all_kept q rec h Types.Nil Types.Nil s k l m = k
all_kept q rec h Types.Nil (Types.Cons u us) s k l m = tt
all_kept q rec h (Types.Cons t ts) Types.Nil s k l m = tt
all_kept q rec h (Types.Cons t ts) (Types.Cons u us) s k l m =
    then_kept q (rec t u s) (λ r. unify_all rec ts us r) (h t u s k l.0 m.0) (λ r i. all_kept q rec h ts us r i l.1 m.1)

answer_where : (q : Nodes) (c : Bool) (a b : Answer) → KeptIn q a → KeptIn q b → KeptIn q (cond c a b)
answer_where q true a b h k = h
answer_where q false a b h k = k

step_kept : (q : Nodes) (rec : Ty → Ty → State → Answer) → Keeps q rec → (a b : Ty) (s : State) → StateOf q s
    → TyOf q a → TyOf q b → KeptIn q (unify_step rec a b s)
step_kept q rec h (Ty.Var v) (Ty.Var w) s k l m = kept_where q (eqb v w) (Ok s) (link_by (s.rigid v) (s.rigid w) v w s)
    k
    (link_kept q (s.rigid v) (s.rigid w) v w s k)
step_kept q rec h (Ty.Var v) (Ty.Made d us) s k l m = solve_kept q v (Ty.Made d us) s m k
step_kept q rec h (Ty.Made c ts) (Ty.Var w) s k l m = solve_kept q w (Ty.Made c ts) s l k
step_kept q rec h (Ty.Made c ts) (Ty.Made d us) s k l m =
    answer_where q (same_symbol c d) (unify_all rec ts us s) (Some (Err Fault.Clash))
    (all_kept q rec h ts us s k l.1 m.1) tt

unify_kept : (q : Nodes) (depth : ℕ) (a b : Ty) (s : State) → StateOf q s → TyOf q a → TyOf q b
    → KeptIn q (unify_in depth a b s)
unify_kept q zero a b s h k l = tt
unify_kept q (suc n) a b s h k l = step_kept q (unify_in n) (unify_kept q n) (put s.stands a) (put s.stands b) s h
    (ty_put q s.stands a h k) (ty_put q s.stands b h l)

-- what a unification gives: no names are made
abbrev pub UnifiedOf : Nodes → Progress → Progress → Type 0
UnifiedOf q st u = (u.names ≡ st.names) × StateOf q u.types

unified_of : (q : Nodes) (sc : Scope) (at : At) (st : Progress) (o : Answer) → KeptIn q o
    → Given (UnifiedOf q st) (unified sc at st o)
unified_of q sc at st None h = tt
unified_of q sc at st (Some (Err e)) h = tt
unified_of q sc at st (Some (Ok r)) h = (refl, h)

pub unify_of : (q : Nodes) (depth : ℕ) (sc : Scope) (at : At) (a b : Ty) (st : Progress) → StateOf q st.types
    → TyOf q a → TyOf q b → Given (UnifiedOf q st) (unify_at depth sc at a b st)
unify_of q depth sc at a b st h k l = unified_of q sc at st (unify_in depth a b st.types)
    (unify_kept q depth a b st.types h k l)
