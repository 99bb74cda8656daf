-- Type schemes and their instances. The Definition of Standard ML (Revised), section 4.5.
use Rattle.std.specs.Prelude.{◌≡◌, ℕ, ◌+◌, ◌<◌, List, [], ◌∷◌, get_or, Bool, true, false, cond, eqb}
use Rattle.semantic_objects.specs.Trees.{Tree, Trees, TypeScheme}
use Rattle.unification.specs.Types.{Ty, Types, Substitution, Marks, State, admits}

-- whether variable `i` of a scheme is an equality variable
abbrev pub mark_of : List Bool → ℕ → Bool
mark_of marks i = get_or marks i false

-- a tree with types for the variables of its scheme, and for those of the table
abbrev mutual
  pub fill : Substitution → Substitution → Tree → Ty
  fill b f (Tree.Bound i) = b i
  fill b f (Tree.Free n) = f n
  fill b f (Tree.Made c ts) = Ty.Made c (fill_all b f ts)

  pub fill_all : Substitution → Substitution → Trees → Types
  fill_all b f Trees.Nil = Types.Nil
  fill_all b f (Trees.Cons t ts) = Types.Cons (fill b f t) (fill_all b f ts)

-- a new variable, rigid or not, marked or not
abbrev pub with_variable : Bool → Bool → State → State
with_variable rigid mark s = record {
  next = s.next + 1;
  stands = s.stands;
  marks = λ n. cond (eqb n s.next) mark (s.marks n);
  rigid = λ n. cond (eqb n s.next) rigid (s.rigid n);
}

-- new variables, one for each mark in their order
abbrev pub with_variables : Bool → List Bool → State → State
with_variables rigid [] s = s
with_variables rigid (m ∷ ms) s = with_variables rigid ms (with_variable rigid m s)

-- an instance of a scheme with a new variable for each of its variables, in the order of the marks; none of them is
-- rigid
abbrev pub instance : TypeScheme → State → Ty × State
instance σ s = (fill (λ i. Ty.Var (s.next + i)) Ty.Var σ.body, with_variables false σ.marks s)

-- a type is an instance of a scheme under these marks: equality variables take equality types alone, and variables of
-- the table stand for themselves
pub record IsInstance (q : Marks) (σ : TypeScheme) (t : Ty) : Type 0 where
  pub by : Substitution
  pub admitted : (i : ℕ) → mark_of σ.marks i ≡ true → admits q (by i) ≡ true
  pub is : fill by Ty.Var σ.body ≡ t

-- every instance of `h` is one of `g`, whichever variables there are besides those of the table
abbrev pub IsMoreGeneral : State → TypeScheme → TypeScheme → Type 0
IsMoreGeneral s g h =
    (q : Marks) → ((n : ℕ) → n < s.next → q n ≡ s.marks n) → (t : Ty) → IsInstance q h t → IsInstance q g t
