-- The components of a name, taken one by one.
use Rattle.std.proofs.Common.{◌≡◌, ◌≢◌, ◌∙◌, ap, subst, sym, refl, ℕ, ◌+◌, ◌-◌, ◌<◌, ◌≤◌, ◌==◌, Bool, true, false, cond, List, [], ◌∷◌, ◌++◌, length, take, drop, get_or, take-append-drop, take_all, append_assoc}
use Rattle.std.specs.Prelude.{All, Result, Ok, Err, OnOk}
use Rattle.std.specs.List.{slice_split, onto_first, join_with_byte}
use Rattle.std.proofs.lemmas.List.{drop_more, take_rest}
use Rattle.std.proofs.lemmas.List.Elements.{All-more}
use Rattle.std.proofs.lemmas.Bool.{ne_eqb}
use Rattle.std.proofs.lemmas.List.Splits.{slice_split_none, slice_split_at}
use Rattle.bin_store.specs.Paths.{later_parts, first_part, store_parts, unit_path, later_path, BeginsWith, IsOnePart}

-- the byte between two components
abbrev is_slash : ℕ → Bool
is_slash byte = byte == 47

-- no byte of a component is a slash
pub record NoSlash (part : List ℕ) : Type 0 where
  pub each : All (λ byte. (byte == 47) ≡ false) part

-- the first component ends before the first slash
pub split_at_slash : (name : List ℕ) (at : ℕ) → at < length name → get_or name at 0 ≡ 47 → NoSlash (take at name)
    → slice_split (λ byte. byte == 47) name ≡ take at name ∷ slice_split (λ byte. byte == 47) (drop (at + 1) name)
split_at_slash name at lt read none =
    let parts : name ≡ take at name ++ 47 ∷ drop (at + 1) name =
    sym (take-append-drop at name)
    ∙ ap (λ (rest : List ℕ). take at name ++ rest) (drop_more name at 0 lt
    ∙ ap (λ z. z ∷ drop (at + 1) name) read) in
    ap (slice_split is_slash) parts ∙ slice_split_at is_slash (take at name) 47 (drop (at + 1) name) none.each refl

-- a name with no slash is its only component
pub split_none : (name : List ℕ) → NoSlash name → slice_split (λ byte. byte == 47) name ≡ name ∷ []
split_none name none = slice_split_none is_slash name none.each

-- a split has a first component
split_first : (name : List ℕ)
    → (first : List ℕ) × (others : List (List ℕ)) × (slice_split is_slash name ≡ first ∷ others)
split_first [] = ([], [], refl)
split_first (byte ∷ name) = by_test (split_first name) (is_slash byte)
  where
    by_test : ((first : List ℕ) × (others : List (List ℕ)) × (slice_split is_slash name ≡ first ∷ others))
        → (b : Bool)
        → (first : List ℕ) × (others : List (List ℕ)) × (cond b ([] ∷ slice_split is_slash name) (onto_first byte
        (slice_split is_slash name)) ≡ first ∷ others)
    by_test rest true = ([], slice_split is_slash name, refl)
    by_test rest false = (byte ∷ rest.0, rest.1, ap (onto_first byte) rest.2)

-- the later components, joined, begin with the first of them
join_later : (part : List ℕ) (parts : List (List ℕ)) (first : List ℕ) (others : List (List ℕ))
    → parts ≡ first ∷ others
    → join_with_byte 47 (later_parts (part ∷ parts)) ≡ (95 ∷ part) ++ 47 ∷ join_with_byte 47 (later_parts parts)
join_later part parts first others is =
    ap (λ (ps : List (List ℕ)). join_with_byte 47 (later_parts (part ∷ ps))) is ∙ joined others
    ∙ ap (λ (ps : List (List ℕ)). (95 ∷ part) ++ 47 ∷ join_with_byte 47 (later_parts ps)) (sym is)
  where
    joined : (others : List (List ℕ))
        → join_with_byte 47 (later_parts (part ∷ first ∷ others))
        ≡ (95 ∷ part) ++ 47 ∷ join_with_byte 47 (later_parts (first ∷ others))
    joined [] = refl
    joined (next ∷ others) = refl

-- the components, joined, begin with the first
join_first : (part : List ℕ) (parts : List (List ℕ)) (first : List ℕ) (others : List (List ℕ))
    → parts ≡ first ∷ others
    → join_with_byte 47 (store_parts (part ∷ parts)) ≡ first_part part ++ 47 ∷ join_with_byte 47 (later_parts parts)
join_first part parts first others is =
    ap (λ (ps : List (List ℕ)). join_with_byte 47 (store_parts (part ∷ ps))) is ∙ joined others
    ∙ ap (λ (ps : List (List ℕ)). first_part part ++ 47 ∷ join_with_byte 47 (later_parts ps)) (sym is)
  where
    joined : (others : List (List ℕ))
        → join_with_byte 47 (store_parts (part ∷ first ∷ others))
        ≡ first_part part ++ 47 ∷ join_with_byte 47 (later_parts (first ∷ others))
    joined [] = refl
    joined (next ∷ others) = refl

-- one more component of the later ones
pub later_path_more : (name part rest : List ℕ) → BeginsWith name part rest
    → later_path name ≡ 95 ∷ (part ++ 47 ∷ later_path rest)
unfolding later_path
later_path_more name part rest is =
    let found = split_first rest in
    ap (λ (ps : List (List ℕ)). join_with_byte 47 (later_parts ps)) is.split
    ∙ join_later part (slice_split is_slash rest) found.0 found.1 found.2

-- the last component
pub later_path_last : (name : List ℕ) → IsOnePart name → later_path name ≡ 61 ∷ name
unfolding later_path
later_path_last name is = ap (λ (ps : List (List ℕ)). join_with_byte 47 (later_parts ps)) is.split

-- the first component of more
pub unit_path_more : (name part rest : List ℕ) → BeginsWith name part rest
    → unit_path name ≡ first_part part ++ 47 ∷ later_path rest
unfolding unit_path later_path
unit_path_more name part rest is =
    let found = split_first rest in
    ap (λ (ps : List (List ℕ)). join_with_byte 47 (store_parts ps)) is.split
    ∙ join_first part (slice_split is_slash rest) found.0 found.1 found.2

-- the only component
pub unit_path_only : (name : List ℕ) → IsOnePart name → unit_path name ≡ 61 ∷ name
unfolding unit_path
unit_path_only name is = ap (λ (ps : List (List ℕ)). join_with_byte 47 (store_parts ps)) is.split

-- what the loop over a name's bytes has found at a slash
pub ends_at : (name : List ℕ) (at : ℕ) → at < length name → get_or name at 0 ≡ 47 → NoSlash (take at name)
    → BeginsWith name (take at name) (take (length name - (at + 1)) (drop (at + 1) name))
ends_at name at lt read none = rw take_rest (record { split = split_at_slash name at lt read none })

-- .. at another byte
pub no_slash_more : (name : List ℕ) (at : ℕ) → at < length name → get_or name at 0 ≢ 47 → NoSlash (take at name)
    → NoSlash (take (at + 1) name)
no_slash_more name at lt other none =
    record {
      each = All-more (λ byte. (byte == 47)
          ≡ false) name at 0 lt none.each (ne_eqb (get_or name at 0) 47 other);
    }

-- .. at the end
pub no_slash_all : (name : List ℕ) (at : ℕ) → length name ≤ at → NoSlash (take at name) → IsOnePart name
no_slash_all name at le none = record { split = split_none name (subst NoSlash (take_all at name le) none) }

-- one more component is written
pub later_step : (path marked next name part rest whole : List ℕ) → marked ≡ path ++ 95 ∷ part
    → next ≡ marked ++ 47 ∷ []
    → BeginsWith name part rest → path ++ later_path name ≡ whole → next ++ later_path rest ≡ whole
later_step path marked next name part rest whole a b is was =
    let step = later_path_more name part rest is in
    rw (b, a) (simp append_assoc (ap (λ (t : List ℕ). path ++ t) (sym step) ∙ was))

-- the first component is written, and then the later ones
pub unit_step : {E : Type 0} (r : Result (Unit {0}) E) (path marked next end name part rest : List ℕ)
    → marked ≡ path ++ first_part part → next ≡ marked ++ 47 ∷ [] → BeginsWith name part rest
    → OnOk r (end ≡ next ++ later_path rest) → OnOk r (end ≡ path ++ unit_path name)
unit_step (Ok done) path marked next end name part rest a b is e =
    let step = unit_path_more name part rest is in
    rw (e, b, a) (simp append_assoc (ap (λ (t : List ℕ). path ++ t) (sym step)))
unit_step (Err fault) path marked next end name part rest a b is e = e
