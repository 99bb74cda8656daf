-- Answers of two runs, one after another.
use Rattle.std.proofs.Common.{◌≡◌, ℕ, refl, sym, subst, Option, Some, None, Bool, true, false}
use Rattle.std.specs.Prelude.{Ok, Err}
use Rattle.sml_trees.specs.declared.name.At.{At}
use Rattle.sml_trees.specs.declared.name.LongName.{LongName}
use Rattle.static_semantics.specs.Inferring.{Progress, Scope, Answer, ◌>>=◌, refuses_where, known}
use Rattle.static_semantics.specs.EnvironmentsPut.{put_scope}
use Rattle.renaming_laws.specs.Moved.{moved, AreMoved, Both, Moves, MovesIn, MovesBoth}

pub both_then : {A B : Type 0} (R : A → A → Type 0) (Q : B → B → Type 0) (m n : Answer A) (f g : A → Answer B)
    → Both R m n → ((x y : A) → R x y → Both Q (f x) (g y)) → Both Q (m >>= f) (n >>= g)
both_then R Q None None f g h l = tt
both_then R Q None (Some y) f g h l = absurd h
both_then R Q (Some (Err d)) None f g h l = absurd h
both_then R Q (Some (Ok x)) None f g h l = absurd h
both_then R Q (Some (Err d)) (Some (Err e)) f g h l = h
both_then R Q (Some (Err d)) (Some (Ok y)) f g h l = absurd h
both_then R Q (Some (Ok x)) (Some (Err e)) f g h l = absurd h
both_then R Q (Some (Ok x)) (Some (Ok y)) f g h l = l x y h

-- what moves, without a state
pub plain_then : {A B : Type 0} (move : A → A) (Q : B → B → Type 0) (m n : Answer A) (f g : A → Answer B)
    → Both (Moves move) m n → ((x : A) → Both Q (f x) (g (move x))) → Both Q (m >>= f) (n >>= g)
plain_then move Q m n f g h l = both_then (Moves move) Q m n f g h
    (λ x y e. subst (λ z. Both Q (f x) (g z)) (sym e) (l x))

-- .. with one
pub moves_then : {A B : Type 0} (k : ℕ) (move : A → A) (Q : B → B → Type 0) (m n : Answer (A × Progress))
    (f g : A × Progress → Answer B) → Both (MovesIn k move) m n
    → ((x : A) (u v : Progress) → AreMoved k u v → Both Q (f (x, u)) (g (move x, v))) → Both Q (m >>= f) (n >>= g)
moves_then k move Q m n f g h l = both_then (MovesIn k move) Q m n f g h
    (λ x y i. subst (λ z. Both Q (f x) (g (z, y.1))) (sym i.0) (l x.0 x.1 y.1 i.1))

pub both_move_then : {A B C : Type 0} (k : ℕ) (move : A → A) (shift : B → B) (Q : C → C → Type 0)
    (m n : Answer (A × B × Progress)) (f g : A × B × Progress → Answer C) → Both (MovesBoth k move shift) m n
    → ((x : A) (y : B) (u v : Progress) → AreMoved k u v → Both Q (f (x, y, u)) (g (move x, shift y, v)))
    → Both Q (m >>= f) (n >>= g)
both_move_then k move shift Q m n f g h l = both_then (MovesBoth k move shift) Q m n f g h
    (λ x y i. subst (λ z. Both Q (f x) (g (z, y.1, y.2))) (sym i.0)
    (subst (λ z. Both Q (f x) (g (move x.0, z, y.2))) (sym i.1) (l x.0 x.1 x.2 y.2 i.2)))

pub both_where : {B : Type 0} (k : ℕ) (Q : B → B → Type 0) (c d : Bool) (number : ℕ) (sc : Scope) (at : At)
    (f g : Unit {0} → Answer B) → d ≡ c → Both Q (f tt) (g tt)
    → Both Q (refuses_where c number sc at >>= f) (refuses_where d number (put_scope (moved k) sc) at >>= g)
both_where k Q true true number sc at f g e h = refl
both_where k Q false false number sc at f g e h = h
both_where k Q true false number sc at f g e h = absurd (cc)
both_where k Q false true number sc at f g e h = absurd (cc)

-- ---- what is found

abbrev pub mapped : {A : Type 0} → (A → A) → Option A → Option A
mapped f None = None
mapped f (Some x) = Some (f x)

pub known_moved : {A : Type 0} (k : ℕ) (move : A → A) (sc : Scope) (long : LongName) (o p : Option A) → p ≡ mapped move o
    → Both (Moves move) (known sc long o) (known (put_scope (moved k) sc) long p)
known_moved k move sc long o p e =
    subst (λ z. Both (Moves move) (known sc long o) (known (put_scope (moved k) sc) long z)) (sym e) (on k move sc long o)
  where
    on : {A : Type 0} (k : ℕ) (move : A → A) (sc : Scope) (long : LongName) (o : Option A)
        → Both (Moves move) (known sc long o) (known (put_scope (moved k) sc) long (mapped move o))
    on k move sc long None = refl
    on k move sc long (Some x) = refl
