-- Paths of the store are injective, and those of one kind are apart from those of another.
use Rattle.std.proofs.Common.{◌≡◌, ◌≢◌, ◌∙◌, ap, sym, refl, ℕ, ◌==◌, Bool, true, false, cond, List, [], ◌∷◌, ◌++◌, drop, get_or, map, arith}
use Rattle.std.specs.List.{slice_split, onto_first, join_with_byte}
use Rattle.std.proofs.lemmas.List.Splits.{join_with_byte-slice_split}
use Rattle.cm_base.specs.declared.record.Pid.{Pid}
use Rattle.cm_bytes.specs.Hashes.{hash_of}
use Rattle.cm_bytes.proofs.Hashes.{same_hash_from_name}
use Rattle.bin_store.specs.Paths.{directory_part, later_parts, first_part, store_parts, unit_path, bin_path, tool_path, interface_path, linked_path}

-- ---- the components of a unit's name, back from those in the store

-- a component without its mark
without_mark : List ℕ → List ℕ
without_mark [] = []
without_mark (byte ∷ bytes) = bytes

-- the first component as it was in the name
first_back : List ℕ → List ℕ
first_back [] = []
first_back (byte ∷ bytes) = cond (byte == 36) (byte ∷ bytes) bytes

-- the components as they were in the name
parts_back : List (List ℕ) → List (List ℕ)
parts_back [] = []
parts_back (part ∷ []) = without_mark part ∷ []
parts_back (part ∷ next ∷ parts) = first_back part ∷ map without_mark (next ∷ parts)

-- marking the first component loses nothing
first_part-back : (part : List ℕ) → first_back (first_part part) ≡ part
unfolding first_back
first_part-back [] = refl
first_part-back (byte ∷ bytes) =
    elim (byte == 36) as (λ b. byte == 36 ≡ b
    → first_back (cond b (byte ∷ bytes) (directory_part (byte ∷ bytes))) ≡ byte ∷ bytes) [
      | true ↦ λ e. rw e refl
      | false ↦ λ e. refl
    ] refl

-- .. nor marking the later ones
later_parts-back : (parts : List (List ℕ)) → map without_mark (later_parts parts) ≡ parts
unfolding without_mark
later_parts-back [] = refl
later_parts-back (part ∷ []) = refl
later_parts-back (part ∷ next ∷ parts) = ap (λ (ps : List (List ℕ)). part ∷ ps) (later_parts-back (next ∷ parts))

-- the later components of some are some
two_parts : (part next : List ℕ) (parts : List (List ℕ))
    → (later : List (List ℕ)) × (first : List ℕ) × (later_parts (next ∷ parts) ≡ first ∷ later)
two_parts part next [] = ([], 61 ∷ next, refl)
two_parts part next (more ∷ parts) = (later_parts (more ∷ parts), directory_part next, refl)

-- marking the components loses nothing
store_parts-back : (parts : List (List ℕ)) → parts_back (store_parts parts) ≡ parts
unfolding parts_back without_mark
store_parts-back [] = refl
store_parts-back (part ∷ []) = refl
store_parts-back (part ∷ next ∷ []) = ap (λ (p : List ℕ). p ∷ next ∷ []) (first_part-back part)
store_parts-back (part ∷ next ∷ more ∷ parts) =
    ap (λ (p : List ℕ). p ∷ map without_mark (later_parts (next ∷ more ∷ parts))) (first_part-back part)
    ∙ ap (λ (ps : List (List ℕ)). part ∷ ps) (later_parts-back (next ∷ more ∷ parts))

-- ---- a unit's path is cut into the components that it was joined of

-- the byte between two components
abbrev is_slash : ℕ → Bool
is_slash byte = byte == 47

-- no byte of a component is a slash
abbrev Free : List ℕ → Type 0
Free [] = Unit {0}
Free (byte ∷ bytes) = (is_slash byte ≡ false) × Free bytes

-- .. of each component
abbrev EachFree : List (List ℕ) → Type 0
EachFree [] = Unit {0}
EachFree (part ∷ parts) = Free part × EachFree parts

-- a byte that is no slash may be put before the first component
EachFree-onto_first : (byte : ℕ) (parts : List (List ℕ)) → is_slash byte ≡ false → EachFree parts
    → EachFree (onto_first byte parts)
EachFree-onto_first byte [] other free = ((other, tt), tt)
EachFree-onto_first byte (part ∷ parts) other free = ((other, free.0), free.1)

-- the components of a name have no slash
EachFree-slice_split : (unit : List ℕ) → EachFree (slice_split is_slash unit)
EachFree-slice_split [] = (tt, tt)
EachFree-slice_split (byte ∷ unit) = by_test (EachFree-slice_split unit) (is_slash byte) refl
  where
    by_test : EachFree (slice_split is_slash unit) → (b : Bool) → is_slash byte ≡ b
        → EachFree (cond b ([] ∷ slice_split is_slash unit) (onto_first byte (slice_split is_slash unit)))
    by_test rest true is = (tt, rest)
    by_test rest false is = EachFree-onto_first byte (slice_split is_slash unit) is rest

-- a marked component has none
Free-first_part : (part : List ℕ) → Free part → Free (first_part part)
Free-first_part [] free = (refl, tt)
Free-first_part (byte ∷ bytes) free = by_test (byte == 36)
  where
    by_test : (b : Bool) → Free (cond b (byte ∷ bytes) (directory_part (byte ∷ bytes)))
    by_test true = free
    by_test false = (refl, free)

-- .. of the later ones
EachFree-later_parts : (parts : List (List ℕ)) → EachFree parts → EachFree (later_parts parts)
EachFree-later_parts [] free = tt
EachFree-later_parts (part ∷ []) free = ((refl, free.0), tt)
EachFree-later_parts (part ∷ next ∷ parts) free = ((refl, free.0), EachFree-later_parts (next ∷ parts) free.1)

-- .. of all
EachFree-store_parts : (parts : List (List ℕ)) → EachFree parts → EachFree (store_parts parts)
EachFree-store_parts [] free = tt
EachFree-store_parts (part ∷ []) free = ((refl, free.0), tt)
EachFree-store_parts (part ∷ next ∷ parts) free = (
  Free-first_part part free.0,
  EachFree-later_parts
      (next ∷ parts) free.1,
)

-- what has no slash is one component
slice_split-free : (part : List ℕ) → Free part → slice_split is_slash part ≡ part ∷ []
slice_split-free [] free = refl
slice_split-free (byte ∷ part) free = rw (free.0, slice_split-free part free.1) refl

-- what has none up to a slash is the first component
slice_split-next : (part rest : List ℕ) → Free part
    → slice_split is_slash (part ++ 47 ∷ rest) ≡ part ∷ slice_split is_slash rest
slice_split-next [] rest free = refl
slice_split-next (byte ∷ part) rest free = rw (free.0, slice_split-next part rest free.1) refl

-- the components that a joined list has: no list of them is empty
or_one : List (List ℕ) → List (List ℕ)
or_one [] = [] ∷ []
or_one (part ∷ parts) = part ∷ parts

-- components without slashes, joined and cut again, are the same
slice_split-joined : (parts : List (List ℕ)) → EachFree parts
    → slice_split is_slash (join_with_byte 47 parts) ≡ or_one parts
unfolding or_one
slice_split-joined [] free = refl
slice_split-joined (part ∷ []) free = slice_split-free part free.0
slice_split-joined (part ∷ next ∷ parts) free =
    slice_split-next part (join_with_byte 47 (next ∷ parts)) free.0
    ∙ ap (λ (ps : List (List ℕ)). part ∷ ps) (slice_split-joined (next ∷ parts) free.1)

-- marked and unmarked components join to the same name
joined-back : (parts : List (List ℕ))
    → join_with_byte 47 (parts_back (or_one (store_parts parts))) ≡ join_with_byte 47 parts
unfolding or_one parts_back without_mark
joined-back [] = refl
joined-back (part ∷ []) = refl
joined-back (part ∷ next ∷ parts) =
    ap (join_with_byte 47) (store_parts-back (part ∷ next ∷ parts))

-- the unit of a path in the store
unit_back : List ℕ → List ℕ
unit_back path = join_with_byte 47 (parts_back (slice_split is_slash path))

-- a unit's part of a path tells the unit
unit_path-back : (unit : List ℕ) → unit_back (unit_path unit) ≡ unit
unfolding unit_back unit_path
unit_path-back unit =
    let parts = slice_split is_slash unit in
    ap (λ (ps : List (List ℕ)). join_with_byte 47 (parts_back ps))
    (slice_split-joined (store_parts parts) (EachFree-store_parts parts (EachFree-slice_split unit)))
    ∙ joined-back parts
    ∙ join_with_byte-slice_split 47 unit

-- units with one part of a path are one
pub unit_path-injective : (a b : List ℕ) → unit_path a ≡ unit_path b → a ≡ b
unit_path-injective a b e = sym (unit_path-back a) ∙ ap unit_back e ∙ unit_path-back b

-- ---- whole paths

-- units with one binfile path are one
pub bin_path-injective : (a b : List ℕ) → bin_path a ≡ bin_path b → a ≡ b
unfolding bin_path
bin_path-injective a b e = unit_path-injective a b (ap (drop 8) e)

-- units with one tool path are one
pub tool_path-injective : (a b : List ℕ) → tool_path a ≡ tool_path b → a ≡ b
unfolding tool_path
tool_path-injective a b e = unit_path-injective a b (ap (drop 9) e)

-- texts whose interface files have one path have one hash
pub interface_path-injective : (a b : List ℕ) → interface_path (hash_of a) ≡ interface_path (hash_of b)
    → hash_of a ≡ hash_of b
unfolding interface_path
interface_path-injective a b e = same_hash_from_name a b (ap (drop 8) e)

-- the byte in which paths of two kinds differ
kind_of : List ℕ → ℕ
kind_of path = get_or path 4 0

-- paths whose bytes there differ are apart
apart_by_kind : (p q : List ℕ) (k l : ℕ) → kind_of p ≡ k → kind_of q ≡ l → k ≢ l → p ≢ q
apart_by_kind p q k l a b apart e = apart (sym a ∙ ap kind_of e ∙ b)

-- the byte of a binfile's path
kind-bin : (unit : List ℕ) → kind_of (bin_path unit) ≡ 98
unfolding kind_of bin_path
kind-bin unit = refl

-- .. of a tool's record
kind-tool : (unit : List ℕ) → kind_of (tool_path unit) ≡ 116
unfolding kind_of tool_path
kind-tool unit = refl

-- .. of an interface
kind-interface : (hash : Pid) → kind_of (interface_path hash) ≡ 105
unfolding kind_of interface_path
kind-interface hash = refl

-- .. of the linked program
kind-linked : kind_of linked_path ≡ 108
unfolding kind_of linked_path
kind-linked = refl

-- a binfile's path is that of no tool's record
pub bin_is_no_tool : (a b : List ℕ) → bin_path a ≢ tool_path b
bin_is_no_tool a b = apart_by_kind _ _ 98 116 (kind-bin a) (kind-tool b) (omega arith)

-- .. of no interface
pub bin_is_no_interface : (a : List ℕ) (hash : Pid) → bin_path a ≢ interface_path hash
bin_is_no_interface a hash = apart_by_kind _ _ 98 105 (kind-bin a) (kind-interface hash) (omega arith)

-- .. and not that of the linked program
pub bin_is_not_linked : (a : List ℕ) → bin_path a ≢ linked_path
bin_is_not_linked a = apart_by_kind _ _ 98 108 (kind-bin a) kind-linked (omega arith)

-- the path of a tool's record is that of no interface
pub tool_is_no_interface : (a : List ℕ) (hash : Pid) → tool_path a ≢ interface_path hash
tool_is_no_interface a hash = apart_by_kind _ _ 116 105 (kind-tool a) (kind-interface hash) (omega arith)

-- .. and not that of the linked program
pub tool_is_not_linked : (a : List ℕ) → tool_path a ≢ linked_path
tool_is_not_linked a = apart_by_kind _ _ 116 108 (kind-tool a) kind-linked (omega arith)

-- an interface's path is not that of the linked program
pub interface_is_not_linked : (hash : Pid) → interface_path hash ≢ linked_path
interface_is_not_linked hash = apart_by_kind _ _ 105 108 (kind-interface hash) kind-linked (omega arith)
