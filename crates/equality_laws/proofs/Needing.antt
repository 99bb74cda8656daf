-- A type admits equality under a choice by what it needs.
use Rattle.std.proofs.Common.{◌≡◌, ℕ, ◌-◌, List, [], ◌∷◌, length, get_or, refl, sym, ap, ap₂, ◌∙◌, subst, Option, Some, None, Bool, true, false, not, ◌&&◌, ◌||◌, cond}
use Rattle.std.specs.List.{list_all}
use Rattle.std.proofs.lemmas.List.Folds.{list_all-append}
use Rattle.semantic_objects.specs.declared.name.Owner.{Owner}
use Rattle.semantic_objects.specs.declared.name.Owner.TheVariants as owner
use Rattle.semantic_objects.specs.declared.symbol.Symbol.{Symbol}
use Rattle.semantic_objects.specs.declared.symbol.Symbol.TheVariants as symbol
use Rattle.unification.specs.declared.equality.Equality.TheVariants as equality
use Rattle.unification.specs.Types.{Ty, Types, is_basis, is_ref, equality_of, where_parts, admits, admits_all}
use Rattle.static_semantics.specs.DatatypeInference.{Con, Dat, same_as_home, is_new, settled_symbol, settled, settled_all, argument_admits, dat_admits}
use Rattle.equality_types.specs.Choices.{admits_by}
use Rattle.equality_laws.specs.Needs.{Need, need_of, barred_over, held_over, is_barred, are_barred, held, all_held, argument_barred, argument_held, cons_barred, cons_held}
use Rattle.equality_laws.specs.Promises.{ArgumentsSayWhatTheyNeed}

-- ---- truth values

-- two parts of which neither is barred, and all that either holds
both : (a b : Bool) (p q : Bool) → ((not a && p) && (not b && q)) ≡ (not (a || b) && (p && q))
both true b p q = refl
both false true true q = refl
both false true false q = refl
both false false p q = refl

past : (e b l : Bool) → (e && (not b && l)) ≡ (not b && (e && l))
past true b l = refl
past false true l = refl
past false false l = refl

-- ---- names

-- what a new name admits, from its mark
new_admits : (r e p b l : Bool) → r ≡ false → p ≡ (not b && l)
    → where_parts (cond r equality.Always (cond e equality.ByParts equality.Never)) p ≡ (not b && (e && l))
new_admits true e p b l h k = absurd (cc)
new_admits false true p b l h k = k
new_admits false false p b l h k = past false b l

old_admits : (choice : List Bool) (r e p b : Bool) (ls : List ℕ)
    → p ≡ (not b && list_all (admits_by choice) ls)
    → where_parts (cond r equality.Always (cond e equality.ByParts equality.Never)) p
    ≡ (not (barred_over (cond r Need.Always (cond e Need.OfParts Need.Never)) b)
    && list_all (admits_by choice) (held_over (cond r Need.Always (cond e Need.OfParts Need.Never)) ls))
old_admits choice true e p b ls k = refl
old_admits choice false true p b ls k = k
old_admits choice false false p b ls k = refl

-- a new name is no name of the basis
new_owner : (home : List ℕ) (o : Owner) (rest eq : Bool) → (same_as_home home o && rest) ≡ true
    → (is_basis o && eq) ≡ false
new_owner home owner.Basis rest eq h = absurd (cc)
new_owner home (owner.«Unit» unit) rest eq h = refl
new_owner home owner.Bound rest eq h = absurd (cc)

symbol_admits : (home : List ℕ) (first : ℕ) (choice : List Bool) (c : Symbol) (p b : Bool) (ls : List ℕ)
    → p ≡ (not b && list_all (admits_by choice) ls)
    → where_parts (equality_of (settled_symbol home first choice c)) p
    ≡ (not (barred_over (need_of home first (length choice) c) b)
    && list_all (admits_by choice) (held_over (need_of home first (length choice) c) ls))
symbol_admits home first choice symbol.Arrow p b ls k = refl
symbol_admits home first choice (symbol.Record labels) p b ls k = k
symbol_admits home first choice (symbol.Name name) p b ls k = by_new (is_new home first (length choice) name) refl
  where
    by_new : (v : Bool) → is_new home first (length choice) name ≡ v
        → where_parts (equality_of (symbol.Name (cond v (record {
          owner = name.owner;
          number = name.number;
          arity = name.arity;
          eq = get_or choice (name.number - first) false;
        }) name))) p
        ≡ (not (barred_over (cond v (Need.OfNew (name.number - first))
        (cond (is_ref name) Need.Always (cond name.eq Need.OfParts Need.Never))) b)
        && list_all (admits_by choice) (held_over (cond v (Need.OfNew (name.number - first))
        (cond (is_ref name) Need.Always (cond name.eq Need.OfParts Need.Never))) ls))
    by_new false h = old_admits choice (is_ref name) name.eq p b ls k
    by_new true h = new_admits (is_ref name) (get_or choice (name.number - first) false) p b
        (list_all (admits_by choice) ls) (new_owner home name.owner _ _ h) k

-- ---- types

mutual
  ty_says : (home : List ℕ) (first : ℕ) (choice : List Bool) (t : Ty)
      → admits (λ n. true) (settled home first choice t)
      ≡ (not (is_barred (need_of home first (length choice)) t)
      && list_all (admits_by choice) (held (need_of home first (length choice)) t))
  ty_says home first choice (Ty.Var n) = refl
  ty_says home first choice (Ty.Made c ts) = symbol_admits home first choice c
      (admits_all (λ n. true) (settled_all home first choice ts))
      (are_barred (need_of home first (length choice)) ts) (all_held (need_of home first (length choice)) ts)
      (tys_say home first choice ts)

  tys_say : (home : List ℕ) (first : ℕ) (choice : List Bool) (ts : Types)
      → admits_all (λ n. true) (settled_all home first choice ts)
      ≡ (not (are_barred (need_of home first (length choice)) ts)
      && list_all (admits_by choice) (all_held (need_of home first (length choice)) ts))
  tys_say home first choice Types.Nil = refl
  tys_say home first choice (Types.Cons t ts) =
      ap₂ (λ x y. x && y) (ty_says home first choice t) (tys_say home first choice ts)
      ∙ both (is_barred (need_of home first (length choice)) t) (are_barred (need_of home first (length choice)) ts)
      (list_all (admits_by choice) (held (need_of home first (length choice)) t))
      (list_all (admits_by choice) (all_held (need_of home first (length choice)) ts))
      ∙ ap (λ z. not (is_barred (need_of home first (length choice)) t
      || are_barred (need_of home first (length choice)) ts) && z)
      (sym (list_all-append (admits_by choice) (held (need_of home first (length choice)) t)
      (all_held (need_of home first (length choice)) ts)))

pub arguments_say : ArgumentsSayWhatTheyNeed
arguments_say = ty_says

-- ---- datatypes

argument_says : (home : List ℕ) (first : ℕ) (choice : List Bool) (arg : Option Ty)
    → argument_admits home first choice arg
    ≡ (not (argument_barred (need_of home first (length choice)) arg)
    && list_all (admits_by choice) (argument_held (need_of home first (length choice)) arg))
argument_says home first choice None = refl
argument_says home first choice (Some ty) = ty_says home first choice ty

cons_say : (home : List ℕ) (first : ℕ) (choice : List Bool) (cons : List Con)
    → list_all (λ (con : Con). argument_admits home first choice con.1) cons
    ≡ (not (cons_barred (need_of home first (length choice)) cons)
    && list_all (admits_by choice) (cons_held (need_of home first (length choice)) cons))
cons_say home first choice [] = refl
cons_say home first choice (con ∷ cons) =
    ap₂ (λ x y. x && y) (argument_says home first choice con.1) (cons_say home first choice cons)
    ∙ both (argument_barred (need_of home first (length choice)) con.1)
    (cons_barred (need_of home first (length choice)) cons)
    (list_all (admits_by choice) (argument_held (need_of home first (length choice)) con.1))
    (list_all (admits_by choice) (cons_held (need_of home first (length choice)) cons))
    ∙ ap (λ z. not (argument_barred (need_of home first (length choice)) con.1
    || cons_barred (need_of home first (length choice)) cons) && z)
    (sym (list_all-append (admits_by choice) (argument_held (need_of home first (length choice)) con.1)
    (cons_held (need_of home first (length choice)) cons)))

pub dat_says : (home : List ℕ) (first count : ℕ) (choice : List Bool) (dat : Dat) → length choice ≡ count
    → dat_admits home first choice dat
    ≡ (not (cons_barred (need_of home first count) dat.cons)
    && list_all (admits_by choice) (cons_held (need_of home first count) dat.cons))
dat_says home first count choice dat e = subst (λ n. dat_admits home first choice dat
    ≡ (not (cons_barred (need_of home first n) dat.cons)
    && list_all (admits_by choice) (cons_held (need_of home first n) dat.cons))) e
    (cons_say home first choice dat.cons)
