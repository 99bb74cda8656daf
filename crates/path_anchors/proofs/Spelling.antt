-- Components without slashes are read back from their path.
use Rattle.std.proofs.Common.{◌≡◌, ◌∙◌, ap, refl, ℕ, ◌==◌, Bool, true, false, cond, List, [], ◌∷◌, ◌++◌}
use Rattle.std.specs.List.{onto_first}
use Rattle.path_anchors.specs.Names.{parts_of, path_of, all_but_last}

-- the byte between two components
abbrev is_slash : ℕ → Bool
is_slash byte = byte == 47

-- no byte of a component is a slash
abbrev pub Free : List ℕ → Type 0
Free [] = Unit {0}
Free (byte ∷ bytes) = (is_slash byte ≡ false) × Free bytes

-- .. of each component
abbrev pub EachFree : List (List ℕ) → Type 0
EachFree [] = Unit {0}
EachFree (part ∷ parts) = Free part × EachFree parts

pub EachFree-append : (a b : List (List ℕ)) → EachFree a → EachFree b → EachFree (a ++ b)
EachFree-append [] b fa fb = fb
EachFree-append (part ∷ a) b fa fb = (fa.0, EachFree-append a b fa.1 fb)

pub EachFree-all_but_last : (parts : List (List ℕ)) → EachFree parts → EachFree (all_but_last parts)
EachFree-all_but_last [] free = tt
EachFree-all_but_last (part ∷ []) free = tt
EachFree-all_but_last (part ∷ next ∷ parts) free = (free.0, EachFree-all_but_last (next ∷ parts) free.1)

EachFree-onto_first : (byte : ℕ) (parts : List (List ℕ)) → is_slash byte ≡ false → EachFree parts
    → EachFree (onto_first byte parts)
EachFree-onto_first byte [] other free = ((other, tt), tt)
EachFree-onto_first byte (part ∷ parts) other free = ((other, free.0), free.1)

-- the components of a path have no slash
pub EachFree-parts_of : (path : List ℕ) → EachFree (parts_of path)
EachFree-parts_of [] = (tt, tt)
EachFree-parts_of (byte ∷ path) = by_test (EachFree-parts_of path) (is_slash byte) refl
  where
    by_test : EachFree (parts_of path) → (b : Bool) → is_slash byte ≡ b
        → EachFree (cond b ([] ∷ parts_of path) (onto_first byte (parts_of path)))
    by_test rest true is = (tt, rest)
    by_test rest false is = EachFree-onto_first byte (parts_of path) is rest

-- what has no slash is one component
parts_of-free : (part : List ℕ) → Free part → parts_of part ≡ part ∷ []
parts_of-free [] free = refl
parts_of-free (byte ∷ part) free = rw (free.0, parts_of-free part free.1) refl

-- what has none up to a slash is the first component
parts_of-next : (part rest : List ℕ) → Free part → parts_of (part ++ 47 ∷ rest) ≡ part ∷ parts_of rest
parts_of-next [] rest free = refl
parts_of-next (byte ∷ part) rest free = rw (free.0, parts_of-next part rest free.1) refl

-- components without slashes, joined and cut again, are the same
pub parts_of-path_of : (part : List ℕ) (parts : List (List ℕ)) → EachFree (part ∷ parts)
    → parts_of (path_of (part ∷ parts)) ≡ part ∷ parts
parts_of-path_of part [] free = parts_of-free part free.0
parts_of-path_of part (next ∷ parts) free =
    parts_of-next part (path_of (next ∷ parts)) free.0
    ∙ ap (λ (ps : List (List ℕ)). part ∷ ps) (parts_of-path_of next parts free.1)
