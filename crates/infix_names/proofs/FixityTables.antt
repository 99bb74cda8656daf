-- How a table goes with the entries that it tells of.
use Rattle.std.proofs.Common.{◌≡◌, ℕ, zero, suc, ◌+◌, ◌-◌, ◌++◌, ◌&&◌, ◌<◌, List, [], ◌∷◌, Bool, true, false, cond, Option, None, Some, refl, ap, sym, subst, ◌∙◌, take, drop, length, get_or, length-append, length-drop, append_assoc, append-nil, arith}
use Rattle.std.specs.Prelude.{is_some, slice_get}
use Rattle.std.specs.List.{All}
use Rattle.std.specs.Option.{unwrap_or}
use Rattle.std.specs.Cmp.Lexicographic.{nat_list_eq_equiv, same_text}
use Rattle.std.proofs.lemmas.List.Elements.{All-nil, All-cons, All-append, All-take, All-drop}
use Rattle.indexmap.specs.IndexMap.{get}
use Rattle.std.proofs.Math.Seq.{take-append_seam}
use Rattle.std.proofs.lemmas.List.{length-take-le, take-take}
use Rattle.sml_trees.specs.declared.full_pat.Fixity.{Fixity}
use Rattle.infix_names.specs.Fixities.{Fixities, fixity_of, left_over, status_from}
use Rattle.infix_names.specs.FixityTables.{same, last_from, last_of, links_from, links_of, Table, place_in, has, IsPlaced, HasAll, HasTheSame, Notes, Puts, TellsAlike, IsTable, status_of}
use Rattle.infix_names.specs.declared.fixity.Status.{Status}

-- ---- one entry more

last_from_more : (held : Option ℕ) (at : ℕ) (fs : Fixities) (s : Status) (name : List ℕ)
    → last_from held at (fs ++ s ∷ []) name ≡ cond (same s.name name) (Some (at + length fs)) (last_from held at fs name)
last_from_more held at [] s name = ap (λ n. cond (same s.name name) (Some n) held) (omega arith)
last_from_more held at (x ∷ fs) s name =
    last_from_more (cond (same x.name name) (Some at) held) (at + 1) fs s name
    ∙ ap (λ n. cond (same s.name name) (Some n) (last_from (cond (same x.name name) (Some at) held) (at + 1) fs name)) (omega arith)

pub last_more : (fs : Fixities) (s : Status) (name : List ℕ)
    → last_of (fs ++ s ∷ []) name ≡ cond (same s.name name) (Some (length fs)) (last_of fs name)
unfolding last_of
last_more fs s name =
    last_from_more None 0 fs s name ∙ ap (λ n. cond (same s.name name) (Some n) (last_from None 0 fs name)) (omega arith)

links_from_more : (before fs : Fixities) (s : Status)
    → links_from before (fs ++ s ∷ []) ≡ links_from before fs ++ last_of (before ++ fs) s.name ∷ []
links_from_more before [] s = ap (λ (fs : Fixities). last_of fs s.name ∷ []) (sym (append-nil before))
links_from_more before (x ∷ fs) s =
    ap (λ (links : List (Option ℕ)). last_of before x.name ∷ links)
    (links_from_more (before ++ x ∷ []) fs s
    ∙ ap (λ (all : Fixities). links_from (before ++ x ∷ []) fs ++ last_of all s.name ∷ []) (append_assoc before (x ∷ []) fs))

pub links_more : (fs : Fixities) (s : Status) → links_of (fs ++ s ∷ []) ≡ links_of fs ++ last_of fs s.name ∷ []
unfolding links_of
links_more fs s = links_from_more [] fs s

length-links_from : (before fs : Fixities) → length (links_from before fs) ≡ length fs
length-links_from before [] = refl
length-links_from before (x ∷ fs) = ap suc (length-links_from (before ++ x ∷ []) fs)

pub length-links : (fs : Fixities) → length (links_of fs) ≡ length fs
unfolding links_of
length-links fs = length-links_from [] fs

take-links_from : (n : ℕ) (before fs : Fixities) → links_from before (take n fs) ≡ take n (links_from before fs)
take-links_from zero before fs = refl
take-links_from (suc n) before [] = refl
take-links_from (suc n) before (x ∷ fs) =
    ap (λ (links : List (Option ℕ)). last_of before x.name ∷ links) (take-links_from n (before ++ x ∷ []) fs)

pub take-links : (n : ℕ) (fs : Fixities) → links_of (take n fs) ≡ take n (links_of fs)
unfolding links_of
take-links n fs = take-links_from n [] fs

-- ---- what is looked up

-- the status that the entry at a place gives
abbrev pub status_at : Fixities → Option ℕ → Option Fixity
status_at fs None = None
status_at fs (Some at) = status_of (slice_get fs at)

-- what stands behind a place
head_there : (all : Fixities) (at : ℕ) (x : Status) (fs : Fixities) → drop at all ≡ x ∷ fs → slice_get all at ≡ Some x
head_there [] zero x fs rest = absurd (cc)
head_there [] (suc at) x fs rest = absurd (cc)
head_there (y ∷ all) zero x fs rest = ap (λ (xs : Fixities). slice_get xs 0) rest
head_there (y ∷ all) (suc at) x fs rest = head_there all at x fs rest

tail_there : (all : Fixities) (at : ℕ) (x : Status) (fs : Fixities) → drop at all ≡ x ∷ fs → drop (at + 1) all ≡ fs
tail_there all at x fs rest =
    ap (λ n. drop n all) (next at) ∙ drop_one all at ∙ ap (λ (xs : Fixities). drop 1 xs) rest
  where
    next : (n : ℕ) → n + 1 ≡ suc n
    next n = omega arith

    drop_one : (all : Fixities) (at : ℕ) → drop (suc at) all ≡ drop 1 (drop at all)
    drop_one [] zero = refl
    drop_one [] (suc at) = refl
    drop_one (y ∷ all) zero = refl
    drop_one (y ∷ all) (suc at) = drop_one all at

look : (all fs : Fixities) (at : ℕ) (place : Option ℕ) (name : List ℕ) → drop at all ≡ fs
    → status_from (status_at all place) fs name ≡ status_at all (last_from place at fs name)
look all [] at place name rest = refl
look all (x ∷ fs) at place name rest =
    let here : slice_get all at ≡ Some x = head_there all at x fs rest in
    ap (λ (held : Option Fixity). status_from held fs name) (chosen (same x.name name) here)
    ∙ look all fs (at + 1) (cond (same x.name name) (Some at) place) name (tail_there all at x fs rest)
  where
    chosen : (b : Bool) → slice_get all at ≡ Some x
        → cond b x.fixity (status_at all place) ≡ status_at all (cond b (Some at) place)
    chosen true here = sym (ap status_of here)
    chosen false here = refl

-- the status of a name is that of its last entry
pub looked_up : (fs : Fixities) (name : List ℕ) → fixity_of fs name ≡ status_at fs (last_of fs name)
unfolding fixity_of last_of
looked_up fs name = look fs fs 0 None name refl

-- the link of an entry
links_from_at : (before fs : Fixities) (i : ℕ) (held : Option ℕ) (d : Status) → i < length fs
    → get_or (links_from before fs) i held ≡ last_of (before ++ take i fs) (get_or fs i d).name
links_from_at before [] i held d within = absurd (omega (arith, within))
links_from_at before (x ∷ fs) zero held d within = ap (λ (all : Fixities). last_of all x.name) (sym (append-nil before))
links_from_at before (x ∷ fs) (suc i) held d within =
    links_from_at (before ++ x ∷ []) fs i held d (omega (arith, within))
    ∙ ap (λ (all : Fixities). last_of all (get_or fs i d).name) (append_assoc before (x ∷ []) (take i fs))

pub link_at : (fs : Fixities) (i : ℕ) (held : Option ℕ) (d : Status) → i < length fs
    → get_or (links_of fs) i held ≡ last_of (take i fs) (get_or fs i d).name
unfolding links_of
link_at fs i held d within = links_from_at [] fs i held d within

-- ---- a table after a note

module _ {S : Type 0} (old new : Table S) (noted : List ℕ) (place : Option ℕ) (notes : Notes old new noted place) where
  -- what the table then has of a name
  kept_name : (name : List ℕ) (b : Bool) → same noted name ≡ b → has old noted ≡ true
      → place_in new name ≡ cond b place (place_in old name)
  kept_name name true is there = ap (λ (o : Option (Option ℕ)). unwrap_or o None)
      (notes name ∙ ap (λ (t : Bool). cond (t && same noted name) (Some place) (get same old name)) there
      ∙ ap (λ (t : Bool). cond t (Some place) (get same old name)) is)
  kept_name name false is there = ap (λ (o : Option (Option ℕ)). unwrap_or o None)
      (notes name ∙ ap (λ (t : Bool). cond (t && same noted name) (Some place) (get same old name)) there
      ∙ ap (λ (t : Bool). cond t (Some place) (get same old name)) is)

  pub has_still : HasTheSame old new
  has_still name = ap is_some (notes name) ∙ by_has (has old noted) (same noted name) refl refl
    where
      by_has : (h s : Bool) → has old noted ≡ h → same noted name ≡ s
          → is_some (cond (h && s) (Some place) (get same old name)) ≡ has old name
      by_has true true there is =
          sym there ∙ ap (has old) (same_text noted name (sym is))
      by_has true false there is = refl
      by_has false s there is = refl

there_is : (o : Option (Option ℕ)) (at : ℕ) → unwrap_or o None ≡ Some at → is_some o ≡ true
there_is None at is = absurd (cc)
there_is (Some place) at is = refl

-- the last entry goes
pub forgotten : {S : Type 0} (old new : Table S) (before : Fixities) (s : Status) (place : Option ℕ)
    → IsPlaced old (before ++ s ∷ []) → place ≡ last_of before s.name → Notes old new s.name place → IsPlaced new before
forgotten old new before s place placed link notes name =
    kept_name old new s.name place notes name (same s.name name) refl there ∙ by_same (same s.name name) refl
  where
    there : has old s.name ≡ true
    there = there_is (get same old s.name) (length before)
        (placed s.name ∙ last_more before s s.name
        ∙ ap (λ b. cond b (Some (length before)) (last_of before s.name)) (nat_list_eq_equiv.refl s.name))

    by_same : (b : Bool) → same s.name name ≡ b → cond b place (place_in old name) ≡ last_of before name
    by_same true is = link ∙ ap (last_of before) (same_text s.name name (sym is))
    by_same false is = placed name ∙ last_more before s name ∙ ap (λ b. cond b (Some (length before)) (last_of before name)) is

-- another entry comes
pub recalled : {S : Type 0} (old new : Table S) (before : Fixities) (s : Status) (at : ℕ)
    → IsPlaced old before → has old s.name ≡ true → at ≡ length before → Notes old new s.name (Some at)
    → IsPlaced new (before ++ s ∷ [])
recalled old new before s at placed there is_at notes name =
    kept_name old new s.name (Some at) notes name (same s.name name) refl there
    ∙ by_same (same s.name name) ∙ sym (last_more before s name)
  where
    by_same : (b : Bool) → cond b (Some at) (place_in old name) ≡ cond b (Some (length before)) (last_of before name)
    by_same true = ap Some is_at
    by_same false = placed name

-- ---- names that a table has

found_from : (held : Option ℕ) (at : ℕ) (fs : Fixities) (name : List ℕ) → is_some held ≡ true
    → is_some (last_from held at fs name) ≡ true
found_from held at [] name there = there
found_from held at (x ∷ fs) name there =
    found_from (cond (same x.name name) (Some at) held) (at + 1) fs name (either_there (same x.name name))
  where
    either_there : (b : Bool) → is_some (cond b (Some at) held) ≡ true
    either_there true = refl
    either_there false = there

all_found : (held : List ℕ → Option ℕ) (at : ℕ) (fs : Fixities)
    → All (λ s. is_some (last_from (held s.name) at fs s.name) ≡ true) fs
all_found held at [] = All-nil (λ (s : Status). is_some (last_from (held s.name) at [] s.name) ≡ true)
all_found held at (x ∷ fs) =
    All-cons (λ (s : Status). is_some (last_from (held s.name) at (x ∷ fs) s.name) ≡ true) x fs
    (found_from (cond (same x.name x.name) (Some at) (held x.name)) (at + 1) fs x.name
    (ap (λ b. is_some (cond b (Some at) (held x.name))) (nat_list_eq_equiv.refl x.name)))
    (all_found (λ name. cond (same x.name name) (Some at) (held name)) (at + 1) fs)

is_there : (o : Option (Option ℕ)) → is_some (unwrap_or o None) ≡ true → is_some o ≡ true
is_there None is = is
is_there (Some place) is = refl

each_has : (P Q : Status → Type 0) → ((s : Status) → P s → Q s) → (fs : Fixities) → All P fs → All Q fs
each_has P Q f fs all = λ k d within. f (get_or fs k d) (all k d within)

-- a table that tells the last entries has their names
pub has_all : {S : Type 0} (table : Table S) (fs : Fixities) → IsPlaced table fs → HasAll table fs
unfolding last_of
has_all table fs placed =
    each_has (λ (s : Status). is_some (last_from None 0 fs s.name) ≡ true) (λ (s : Status). has table s.name ≡ true)
    (λ s is. is_there (get same table s.name) (ap is_some (placed s.name) ∙ is)) fs (all_found (λ name. None) 0 fs)

pub has_all_still : {S : Type 0} (old new : Table S) (fs : Fixities) → HasTheSame old new → HasAll old fs → HasAll new fs
has_all_still old new fs alike all = each_has (λ (s : Status). has old s.name ≡ true) (λ (s : Status). has new s.name ≡ true)
    (λ s is. alike s.name ∙ is) fs all

-- what is left of entries whose names a table has
has_left : {S : Type 0} (table : Table S) (start kept : ℕ) (fs : Fixities) → HasAll table fs
    → HasAll table (left_over start kept fs)
has_left table start kept fs all =
    All-append (λ s. has table s.name ≡ true) (take start fs) (drop (kept - start) (drop start fs))
    (All-take (λ s. has table s.name ≡ true) start fs all)
    (All-drop (λ s. has table s.name ≡ true) (kept - start) (drop start fs) (All-drop (λ s. has table s.name ≡ true) start fs all))

-- ---- tables of whole lists

-- of no entry
pub none_told : {S : Type 0} (table : Table S) (fs : Fixities) (links : List (Option ℕ))
    → ((name : List ℕ) → get same table name ≡ None) → links ≡ [] → fs ≡ [] → IsTable table links fs
unfolding last_of links_of
none_told table fs links none no_link no_entry = record {
  placed = λ name.
      ap (λ (o : Option (Option ℕ)). unwrap_or o None) (none name)
      ∙ ap (λ (xs : Fixities). last_from None 0 xs name) (sym no_entry);
  linked = no_link ∙ ap (links_from []) (sym no_entry);
}

-- one entry more
pub added : {S : Type 0} (old new : Table S) (fs all : Fixities) (links more : List (Option ℕ)) (s : Status)
    (name : List ℕ) (place : Option ℕ) → IsTable old links fs → name ≡ s.name → place ≡ place_in old name
    → more ≡ links ++ place ∷ [] → all ≡ fs ++ s ∷ [] → Puts old new name (length fs) → IsTable new more all
added old new fs all links more s name place told copied is longer grown puts = record {
  placed = λ n.
      puts n ∙ ap (λ x. cond (same x n) (Some (length fs)) (place_in old n)) copied
      ∙ ap (λ (o : Option ℕ). cond (same s.name n) (Some (length fs)) o) (told.placed n)
      ∙ sym (last_more fs s n) ∙ ap (λ (xs : Fixities). last_of xs n) (sym grown);
  linked =
      longer ∙ ap (λ (at : Option ℕ). links ++ at ∷ []) (is ∙ told.placed name ∙ ap (last_of fs) copied)
      ∙ ap (λ (at : List (Option ℕ)). at ++ last_of fs s.name ∷ []) told.linked
      ∙ sym (links_more fs s) ∙ ap links_of (sym grown);
}

-- as before
pub as_before : {S : Type 0} (old new : Table S) (fs all : Fixities) (links more : List (Option ℕ)) → IsTable old links fs
    → TellsAlike old new → more ≡ links → all ≡ fs → IsTable new more all
as_before old new fs all links more told alike longer grown = record {
  placed = λ n. alike n ∙ told.placed n ∙ ap (λ (xs : Fixities). last_of xs n) (sym grown);
  linked = longer ∙ told.linked ∙ ap links_of (sym grown);
}

-- the first entries
pub cut : {S : Type 0} (new : Table S) (n : ℕ) (fs all : Fixities) (links more : List (Option ℕ)) → links ≡ links_of fs
    → IsPlaced new (take n fs) → more ≡ take n links → all ≡ take n fs → IsTable new more all
cut new n fs all links more linked placed shorter fewer = record {
  placed = subst (λ (xs : Fixities). IsPlaced new xs) (sym fewer) placed;
  linked = shorter ∙ ap (take n) linked ∙ sym (take-links n fs) ∙ ap links_of (sym fewer);
}

-- ---- what is left behind a scope

length-left : (start kept : ℕ) (fs : Fixities) → start < length fs
    → length (left_over start kept fs) ≡ start + (length fs - start - (kept - start))
length-left start kept fs some =
    length-append (take start fs) (drop (kept - start) (drop start fs))
    ∙ ap (λ n. n + length (drop (kept - start) (drop start fs))) (length-take-le start fs (omega (arith, some)))
    ∙ ap (λ n. start + n) (length-drop (kept - start) (drop start fs) ∙ ap (λ n. n - (kept - start)) (length-drop start fs))

pub front_left : (start kept : ℕ) (fs : Fixities) → start < length fs → take start (left_over start kept fs) ≡ take start fs
front_left start kept fs some =
    let size : length (take start fs) ≡ start = length-take-le start fs (omega (arith, some)) in
    ap (λ n. take n (left_over start kept fs)) (sym size) ∙ take-append_seam (take start fs) (drop (kept - start) (drop start fs))

pub left_linked : (start kept : ℕ) (fs all : Fixities) (links less : List (Option ℕ)) → start < length fs → links ≡ links_of fs
    → all ≡ left_over start kept fs → less ≡ take (length all) links → take start less ≡ links_of (take start all)
left_linked start kept fs all links less some linked left shorter =
    let size : length all ≡ start + (length fs - start - (kept - start)) = ap length left ∙ length-left start kept fs some in
    ap (take start) shorter ∙ take-take start (length all) links (omega (arith, size)) ∙ ap (take start) linked
    ∙ sym (take-links start fs) ∙ ap links_of (sym (front_left start kept fs some) ∙ ap (take start) (sym left))

pub left_long : (start kept : ℕ) (fs all : Fixities) (links less : List (Option ℕ)) → start < length fs → links ≡ links_of fs
    → all ≡ left_over start kept fs → less ≡ take (length all) links → length less ≡ length all
left_long start kept fs all links less some linked left shorter =
    let size : length all ≡ start + (length fs - start - (kept - start)) = ap length left ∙ length-left start kept fs some in
    let long : length links ≡ length fs = ap length linked ∙ length-links fs in
    ap length shorter ∙ length-take-le (length all) links (omega (arith, size, long, some))

-- a table that told all entries, and has the same names, has those of what is left
pub left_known : {S : Type 0} (old new : Table S) (start kept : ℕ) (fs all : Fixities) → IsPlaced old fs → HasTheSame old new
    → all ≡ left_over start kept fs → HasAll new all
left_known old new start kept fs all placed alike left =
    subst (λ (xs : Fixities). HasAll new xs) (sym left)
    (has_left new start kept fs (has_all_still old new fs alike (has_all old fs placed)))
