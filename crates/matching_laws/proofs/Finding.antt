-- Where a realisation matches, matching gives it.
use Rattle.std.proofs.Common.{◌≡◌, ℕ, refl, sym, ap, ap₂, ◌∙◌, subst, List, [], ◌∷◌, ◌++◌, map, Option, Some, None, Bool, true, false, ◌&&◌, ◌||◌, not, cond, inl, inr, eqb}
use Rattle.std.proofs.lemmas.Bool.{eq-eqb}
use Rattle.std.specs.Option.{is_none}
use Rattle.std.specs.List.{list_any}
use Rattle.sml_trees.specs.declared.name.At.{At}
use Rattle.semantic_objects.proofs.Same.{text_same}
use Rattle.semantic_objects.specs.declared.name.TyName.{TyName}
use Rattle.semantic_objects.specs.declared.entry.ConEntry.{ConEntry}
use Rattle.semantic_objects.specs.declared.entry.TypeFn.{TypeFn}
use Rattle.semantic_objects.specs.declared.entry.TypeStr.{TypeStr}
use Rattle.semantic_objects.specs.declared.entry.ValueEntry.{ValueEntry}
use Rattle.semantic_objects.specs.declared.entry.VidStatus.{VidStatus}
use Rattle.semantic_objects.specs.declared.entry.VidStatus.TheVariants as status
use Rattle.semantic_objects.specs.Symbols.{same_list, same_bool, same_text, same_name}
use Rattle.semantic_objects.specs.Trees.{TypeScheme}
use Rattle.semantic_objects.specs.Environments.{Env, Signature, structures, types, values}
use Rattle.unification.specs.Types.{State}
use Rattle.unification.specs.Closing.{canonical_scheme}
use Rattle.unification.specs.Generality.{same_tree, covers}
use Rattle.unification.proofs.Walking.{either_way, and_left, and_right, and_both, or_left, or_right}
use Rattle.unification.proofs.Filling.{tree_same}
use Rattle.unification.proofs.Covering.{covers_law}
use Rattle.realisation.specs.Names.{is_listed}
use Rattle.realisation.specs.Realised.{Realisation, of_rows, realised_tree, realised, function_admits}
use Rattle.realisation.proofs.Listing.{name_same}
use Rattle.realisation.proofs.Realising.{realised_agrees}
use Rattle.static_semantics.specs.Holding.{AllItems}
use Rattle.static_semantics.specs.Inferring.{Scope, Answer, ◌>>=◌, gives, refuses_where, found_at}
use Rattle.module_semantics.specs.SignatureNames.{name_alone}
use Rattle.module_semantics.specs.Matching.{Item, items, present, misfits_where, Rows, if_flexible, realising, realising_item, realising_all, is_left, same_function, same_scheme, same_con, has_cons, has_status, fits_type, fits_value, enriching_item, enriching_all}
use Rattle.module_semantics.specs.ElaboratesSignatures.{Respects, con_form, HasCons, HasStatus, EnrichesType, EnrichesItem, EnrichesValue, Matches}
use Rattle.module_semantics.specs.Promises.{IsOfState, IsItemOf, IsOneOf, StandAlone}
use Rattle.module_semantics.proofs.Sound.{FoundBefore, row_added}
use Rattle.module_semantics.proofs.Unique.{item_by, items_by, realised_alone}
use Rattle.matching_laws.specs.Promises.{FindsRows, MatchesWhereOneDoes}

-- ---- answers

pub present_there : {A B : Type 0} (sc : Scope) (at : At) (path : List (List ℕ)) (found : Option A) (x : A)
    (next : A → Answer B) → found ≡ Some x → (present sc at path found >>= next) ≡ next x
present_there sc at path found x next e = ap (λ o. present sc at path o >>= next) e

passes : {B : Type 0} (c : Bool) (number : ℕ) (sc : Scope) (at : At) (next : Unit {0} → Answer B) → c ≡ false
    → (refuses_where c number sc at >>= next) ≡ next tt
passes c number sc at next e = ap (λ b. refuses_where b number sc at >>= next) e

fits : (c : Bool) (sc : Scope) (at : At) (path : List (List ℕ)) → c ≡ false → misfits_where c sc at path ≡ gives tt
fits c sc at path e = ap (λ b. misfits_where b sc at path) e

not_true : (c : Bool) → c ≡ true → not c ≡ false
not_true c e = ap not e

-- ---- rows

-- all that rows put a realisation puts
abbrev Within : Realisation → Rows → Type 0
Within φ rows = (name : TyName) (by : TypeFn) → of_rows rows name ≡ Some by → φ name ≡ Some by

-- what rows put others put too
abbrev StaysIn : Rows → Rows → Type 0
StaysIn rows more = (name : TyName) (by : TypeFn) → of_rows rows name ≡ Some by → of_rows more name ≡ Some by

first_of : (c : Bool) (f by : TypeFn) (rest more : Option TypeFn) → (rest ≡ Some by → more ≡ Some by)
    → cond c (Some f) rest ≡ Some by → cond c (Some f) more ≡ Some by
first_of true f by rest more k h = h
first_of false f by rest more k h = k h

pub none_some : (by : TypeFn) → None ≡ Some by → ⊥
none_some by h = cc

stays : (rows more : Rows) → StaysIn rows (rows ++ more)
stays [] more name by h = absurd (none_some by h)
stays (row ∷ rows) more name by h = first_of (same_name row.0 name) row.1 by (of_rows rows name)
    (of_rows (rows ++ more) name) (stays rows more name by) h

-- a row of a name that had none
some_by : (c : Bool) (f : TypeFn) → c ≡ true → cond c (Some f) None ≡ Some f
some_by true f h = refl
some_by false f h = absurd (cc)

no_more : (c : Bool) (f by : TypeFn) (rest more : Option TypeFn) → is_none (cond c (Some f) rest) ≡ true
    → (is_none rest ≡ true → more ≡ Some by) → cond c (Some f) more ≡ Some by
no_more true f by rest more h k = absurd (cc)
no_more false f by rest more h k = k h

added : (rows : Rows) (n : TyName) (f : TypeFn) → is_none (of_rows rows n) ≡ true
    → of_rows (rows ++ (n, f) ∷ []) n ≡ Some f
added [] n f h = some_by (same_name n n) f (name_same n)
added (row ∷ rows) n f h = no_more (same_name row.0 n) row.1 f (of_rows rows n) (of_rows (rows ++ (n, f) ∷ []) n) h
    (added rows n f)

there : (found : Option TypeFn) → is_none found ≡ false → (by : TypeFn) × (found ≡ Some by)
there None h = absurd (cc)
there (Some by) h = (by, refl)

-- ---- the first walk

abbrev pub Holds : State → Env → Realisation → Item → Type 0
Holds s env φ x = EnrichesItem s env (item_by (realised_tree φ) x)

-- rows that are given after some items: they put what the realisation puts, all that they put before, and something for
-- each bound name that stands alone at one of the items
record Goes (φ : Realisation) (bound : List TyName) (xs : List Item) (before : Rows) (m : Answer Rows) : Type 0 where
  rows : Rows
  is : m ≡ gives rows
  within : Within φ rows
  more : StaysIn before rows
  reached : (path : List (List ℕ)) (str : TypeStr) (n : TyName) → IsOneOf (Item.TypeItem path str) xs
      → name_alone str.function ≡ Some n → is_listed n bound ≡ true → (by : TypeFn) × (of_rows rows n ≡ Some by)

abbrev ItemGoes : Realisation → List TyName → Item → Rows → Answer Rows → Type 0
ItemGoes φ bound x before m = Goes φ bound (x ∷ []) before m

-- an item at which no name is realised
same_rows : (φ : Realisation) (bound : List TyName) (x : Item) (before : Rows) (m : Answer Rows) → m ≡ gives before
    → Within φ before
    → ((path : List (List ℕ)) (str : TypeStr) (n : TyName) → Item.TypeItem path str ≡ x
    → name_alone str.function ≡ Some n → is_listed n bound ≡ true → (by : TypeFn) × (of_rows before n ≡ Some by))
    → ItemGoes φ bound x before m
same_rows φ bound x before m e w r = record {
  rows = before;
  is = e;
  within = w;
  more = λ name by h. h;
  reached = λ path str n i a l. one path str n i a l;
}
  where
    one : (path : List (List ℕ)) (str : TypeStr) (n : TyName) → IsOneOf (Item.TypeItem path str) (x ∷ [])
        → name_alone str.function ≡ Some n → is_listed n bound ≡ true → (by : TypeFn) × (of_rows before n ≡ Some by)
    one path str n (inl i) a l = r path str n i a l
    one path str n (inr i) a l = absurd i

name_is_one : (a b : TyName) (o : Option TyName) → o ≡ Some a → o ≡ Some b → a ≡ b
name_is_one a b o h k = let e : Some a ≡ Some b = sym h ∙ k in cc

none_is_some : (o : Option TyName) (a : TyName) → o ≡ None → o ≡ Some a → ⊥
none_is_some o a h k = let e : None ≡ Some a = sym h ∙ k in cc

str_of_item : (path other : List (List ℕ)) (str strs : TypeStr) → Item.TypeItem path str ≡ Item.TypeItem other strs
    → str ≡ strs
str_of_item path other str strs e = cc

-- what is found under a type that a name is alone at
pub is_by : (s : State) (env : Env) (sig : Signature) (φ : Realisation) → Matches s env sig φ → (path : List (List ℕ))
    (str : TypeStr) (n : TyName) → name_alone str.function ≡ Some n → is_listed n sig.bound ≡ true
    → Holds s env φ (Item.TypeItem path str)
    → (found : TypeStr) × (found_at types path env ≡ Some found) × (φ n ≡ Some found.function)
    × Respects s n found.function
is_by s env sig φ m path str n a l h =
    let by : (b : TypeFn) × (φ n ≡ Some b) × Respects s n b = m.realises.bound n l in
    let same : by.0 ≡ h.0.function = sym (realised_alone φ str.function n by.0 s a by.1 by.2) ∙ sym h.2.function in
    (h.0, h.1, by.1 ∙ ap Some same, subst (Respects s n) same by.2)

lacks_none : (eq admits : Bool) → (eq ≡ true → admits ≡ true) → (eq && not admits) ≡ false
lacks_none true admits h = ap not (h refl)
lacks_none false admits h = refl

within_added : (φ : Realisation) (rows : Rows) (n : TyName) (f : TypeFn) → Within φ rows → φ n ≡ Some f
    → Within φ (rows ++ (n, f) ∷ [])
within_added φ rows n f w e name by h = cases (row_added rows n f name by h)
  where
    cases : FoundBefore rows n f name by → φ name ≡ Some by
    cases (inl k) = w name by k
    cases (inr k) = subst (λ z. φ z ≡ Some by) k.0 (e ∙ ap Some k.1)

realises_one : (sc : Scope) (at : At) (s : State) (env : Env) (path : List (List ℕ)) (rows : Rows) (n : TyName)
    (found : TypeStr) → found_at types path env ≡ Some found → Respects s n found.function
    → realising sc at s env path rows (Some n) ≡ gives (rows ++ (n, found.function) ∷ [])
realises_one sc at s env path rows n found e r =
    present_there sc at path (found_at types path env) found
    (λ str. refuses_where (not (eqb str.function.arity n.arity)) 35 sc at
    >>= λ u. refuses_where (n.eq && not (function_admits s.marks str.function)) 33 sc at
    >>= λ v. gives (rows ++ (n, str.function) ∷ [])) e
    ∙ passes (not (eqb found.function.arity n.arity)) 35 sc at
    (λ u. refuses_where (n.eq && not (function_admits s.marks found.function)) 33 sc at
    >>= λ v. gives (rows ++ (n, found.function) ∷ []))
    (not_true (eqb found.function.arity n.arity) (eq-eqb found.function.arity n.arity r.arity))
    ∙ passes (n.eq && not (function_admits s.marks found.function)) 33 sc at
    (λ v. gives (rows ++ (n, found.function) ∷ []))
    (lacks_none n.eq (function_admits s.marks found.function) r.equality)

type_goes : (sc : Scope) (at : At) (s : State) (env : Env) (sig : Signature) (φ : Realisation) → Matches s env sig φ
    → (path : List (List ℕ)) (str : TypeStr) (rows : Rows) → Holds s env φ (Item.TypeItem path str) → Within φ rows
    → ItemGoes φ sig.bound (Item.TypeItem path str) rows
    (realising_item sc at s env sig.bound (Item.TypeItem path str) rows)
type_goes sc at s env sig φ m path str rows h w = ways (name_alone str.function) refl
  where
    x : Item
    x = Item.TypeItem path str

    ways : (o : Option TyName) → name_alone str.function ≡ o
        → ItemGoes φ sig.bound (Item.TypeItem path str) rows
        (realising sc at s env path rows (if_flexible sig.bound rows (name_alone str.function)))
    ways None e = same_rows φ sig.bound (Item.TypeItem path str) rows
        (realising sc at s env path rows (if_flexible sig.bound rows (name_alone str.function)))
        (ap (λ o. realising sc at s env path rows (if_flexible sig.bound rows o)) e) w
        (λ p q n i a l. absurd (none_is_some (name_alone str.function) n e
        (ap (λ (z : TypeStr). name_alone z.function) (sym (str_of_item p path q str i)) ∙ a)))
    ways (Some n) e = either_way (is_listed n sig.bound && is_none (of_rows rows n))
        (λ b. (let l : is_listed n sig.bound ≡ true =
        and_left (is_listed n sig.bound) (is_none (of_rows rows n)) b in
        let none : is_none (of_rows rows n) ≡ true =
        and_right (is_listed n sig.bound) (is_none (of_rows rows n)) b in
        let by : (found : TypeStr) × (found_at types path env ≡ Some found) × (φ n ≡ Some found.function)
        × Respects s n found.function = is_by s env sig φ m path str n e l h in
        record {
          rows = rows ++ (n, by.0.function) ∷ [];
          is = ap (λ o. realising sc at s env path rows (if_flexible sig.bound rows o)) e
              ∙ ap (λ c. realising sc at s env path rows (cond c (Some n) None)) b
              ∙ realises_one sc at s env path rows n by.0 by.1 by.3;
          within = within_added φ rows n by.0.function w by.2;
          more = stays rows ((n, by.0.function) ∷ []);
          reached = λ p q k i a j. (by.0.function, here p q k n by.0.function none i a e);
        }))
        (λ b. same_rows φ sig.bound (Item.TypeItem path str) rows
        (realising sc at s env path rows (if_flexible sig.bound rows (name_alone str.function)))
        (ap (λ o. realising sc at s env path rows (if_flexible sig.bound rows o)) e
        ∙ ap (λ c. realising sc at s env path rows (cond c (Some n) None)) b) w
        (λ p q k i a l. (let same : n ≡ k = name_is_one n k (name_alone str.function) e
        (ap (λ (z : TypeStr). name_alone z.function) (sym (str_of_item p path q str i)) ∙ a) in
        let was : is_none (of_rows rows k) ≡ false = subst (λ z. is_none (of_rows rows z) ≡ false) same
        (other_false (is_listed n sig.bound) (is_none (of_rows rows n))
        (subst (λ z. is_listed z sig.bound ≡ true) (sym same) l) b) in
        there (of_rows rows k) was)))
      where
        other_false : (a b : Bool) → a ≡ true → (a && b) ≡ false → b ≡ false
        other_false true b h k = k
        other_false false b h k = absurd (cc)

        here : (p : List (List ℕ)) (q : TypeStr) (k n : TyName) (f : TypeFn) → is_none (of_rows rows n) ≡ true
            → IsOneOf (Item.TypeItem p q) (Item.TypeItem path str ∷ []) → name_alone q.function ≡ Some k
            → name_alone str.function ≡ Some n → of_rows (rows ++ (n, f) ∷ []) k ≡ Some f
        here p q k n f none (inl i) a e = subst (λ z. of_rows (rows ++ (n, f) ∷ []) z ≡ Some f)
            (name_is_one n k (name_alone str.function) e
            (ap (λ (z : TypeStr). name_alone z.function) (sym (str_of_item p path q str i)) ∙ a))
            (added rows n f none)
        here p q k n f none (inr i) a e = absurd i

structure_item : (path other : List (List ℕ)) (str : TypeStr) → Item.TypeItem path str ≡ Item.StructureItem other → ⊥
structure_item path other str e = cc

value_item : (path other : List (List ℕ)) (str : TypeStr) (value : ValueEntry)
    → Item.TypeItem path str ≡ Item.ValueItem other value → ⊥
value_item path other str value e = cc

item_goes : (sc : Scope) (at : At) (s : State) (env : Env) (sig : Signature) (φ : Realisation) → Matches s env sig φ
    → (x : Item) (rows : Rows) → Holds s env φ x → Within φ rows
    → ItemGoes φ sig.bound x rows (realising_item sc at s env sig.bound x rows)
item_goes sc at s env sig φ m (Item.StructureItem path) rows h w =
    same_rows φ sig.bound (Item.StructureItem path) rows
    (realising_item sc at s env sig.bound (Item.StructureItem path) rows)
    (present_there sc at path (found_at structures path env) h.0 (λ e. gives rows) h.1) w
    (λ p q n i a l. absurd (structure_item p path q i))
item_goes sc at s env sig φ m (Item.TypeItem path str) rows h w = type_goes sc at s env sig φ m path str rows h w
item_goes sc at s env sig φ m (Item.ValueItem path value) rows h w =
    same_rows φ sig.bound (Item.ValueItem path value) rows
    (realising_item sc at s env sig.bound (Item.ValueItem path value) rows) refl w
    (λ p q n i a l. absurd (value_item p path q value i))

all_go : (sc : Scope) (at : At) (s : State) (env : Env) (sig : Signature) (φ : Realisation) → Matches s env sig φ
    → (xs : List Item) (rows : Rows) → AllItems (Holds s env φ) xs → Within φ rows
    → Goes φ sig.bound xs rows (realising_all sc at s env sig.bound xs rows)
all_go sc at s env sig φ m [] rows h w = record {
  rows = rows;
  is = refl;
  within = w;
  more = λ name by e. e;
  reached = λ path str n i a l. absurd i;
}
all_go sc at s env sig φ m (x ∷ xs) rows h w =
    let first : ItemGoes φ sig.bound x rows (realising_item sc at s env sig.bound x rows) =
    item_goes sc at s env sig φ m x rows h.0 w in
    let rest : Goes φ sig.bound xs first.rows (realising_all sc at s env sig.bound xs first.rows) =
    all_go sc at s env sig φ m xs first.rows h.1 first.within in
    record {
      rows = rest.rows;
      is = ap (λ r. r >>= realising_all sc at s env sig.bound xs) first.is ∙ rest.is;
      within = rest.within;
      more = λ name by e. rest.more name by (first.more name by e);
      reached = λ path str n i a l. either path str n first.rows rest.rows first.reached rest.more rest.reached i a l;
    }
  where
    either : (path : List (List ℕ)) (str : TypeStr) (n : TyName) (middle last : Rows)
        → ((path : List (List ℕ)) (str : TypeStr) (n : TyName) → IsOneOf (Item.TypeItem path str) (x ∷ [])
        → name_alone str.function ≡ Some n → is_listed n sig.bound ≡ true
        → (by : TypeFn) × (of_rows middle n ≡ Some by))
        → StaysIn middle last
        → ((path : List (List ℕ)) (str : TypeStr) (n : TyName) → IsOneOf (Item.TypeItem path str) xs
        → name_alone str.function ≡ Some n → is_listed n sig.bound ≡ true → (by : TypeFn) × (of_rows last n ≡ Some by))
        → IsOneOf (Item.TypeItem path str) (x ∷ xs) → name_alone str.function ≡ Some n
        → is_listed n sig.bound ≡ true → (by : TypeFn) × (of_rows last n ≡ Some by)
    either path str n middle last k more r (inl i) a l =
        let by : (by : TypeFn) × (of_rows middle n ≡ Some by) = k path str n (inl i) a l in
        (by.0, more n by.0 by.1)
    either path str n middle last k more r (inr i) a l = r path str n i a l

-- ---- no name is left

none_left : (rows : Rows) (bound : List TyName)
    → ((name : TyName) → is_listed name bound ≡ true → is_left rows name ≡ false) → list_any (is_left rows) bound ≡
    false
none_left rows [] h = refl
none_left rows (m ∷ ms) h = ap₂ (λ a b. a || b)
    (h m (or_left (same_name m m) (is_listed m ms) (name_same m)))
    (none_left rows ms (λ name l. h name (or_right (same_name name m) (is_listed name ms) l)))

not_left : (rows : Rows) (name : TyName) (by : TypeFn) → of_rows rows name ≡ Some by → is_left rows name ≡ false
not_left rows name by e = ap is_none e

same_as : (φ : Realisation) (rows : Rows) (name : TyName) → Within φ rows → φ name ≡ None → of_rows rows name ≡ φ name
same_as φ rows name w e = ways (of_rows rows name) refl ∙ sym e
  where
    ways : (o : Option TypeFn) → of_rows rows name ≡ o → o ≡ None
    ways None h = refl
    ways (Some by) h = absurd (none_some by (sym e ∙ w name by h))

-- ---- the second walk

bools_same : (b : Bool) → same_bool b b ≡ true
bools_same true = refl
bools_same false = refl

marks_same : (marks : List Bool) → same_list same_bool marks marks ≡ true
marks_same [] = refl
marks_same (m ∷ ms) = and_both (same_bool m m) (same_list same_bool ms ms) (bools_same m) (marks_same ms)

scheme_same : (σ : TypeScheme) → same_scheme σ σ ≡ true
scheme_same σ = and_both (same_list same_bool σ.marks σ.marks) (same_tree σ.body σ.body) (marks_same σ.marks)
    (tree_same σ.body)

form_same : (a b : ConEntry) → con_form a ≡ con_form b → same_con a b ≡ true
form_same a b e = and_both (same_text a.name b.name) (same_scheme (canonical_scheme a.scheme) (canonical_scheme
    b.scheme))
    (subst (λ z. same_text a.name z ≡ true) (ap (λ p. p.0) e) (text_same a.name))
    (subst (λ z. same_scheme (canonical_scheme a.scheme) z ≡ true) (ap (λ p. p.1) e)
    (scheme_same (canonical_scheme a.scheme)))

head_is : (a b : List ℕ × TypeScheme) (xs ys : List (List ℕ × TypeScheme)) → a ∷ xs ≡ b ∷ ys → (a ≡ b) × (xs ≡ ys)
head_is a b xs ys e = ((let h : a ≡ b = cc in h), (let t : xs ≡ ys = cc in t))

cons_same : (xs ys : List ConEntry) → map con_form xs ≡ map con_form ys → same_list same_con xs ys ≡ true
cons_same [] [] e = refl
cons_same [] (y ∷ ys) e = absurd (cc)
cons_same (x ∷ xs) [] e = absurd (cc)
cons_same (x ∷ xs) (y ∷ ys) e =
    let h : (con_form x ≡ con_form y) × (map con_form xs ≡ map con_form ys) =
    head_is (con_form x) (con_form y) (map con_form xs) (map con_form ys) e in
    and_both (same_con x y) (same_list same_con xs ys) (form_same x y h.0) (cons_same xs ys h.1)

cons_fit : (want found : List ConEntry) → HasCons want found → has_cons want found ≡ true
cons_fit [] found h = refl
cons_fit (con ∷ cons) found h = cons_same (con ∷ cons) found h

status_fits : (want found : VidStatus) → HasStatus want found → has_status want found ≡ true
status_fits status.Variable found h = refl
status_fits status.Constructor found h = ap (has_status status.Constructor) h
status_fits status.Exception found h = ap (has_status status.Exception) h

type_fits : (want found : TypeStr) → EnrichesType want found → fits_type want found ≡ true
type_fits want found h = and_both (same_function want.function found.function) (has_cons want.cons found.cons)
    (subst (λ z. same_function want.function z ≡ true) (sym h.function)
    (and_both (eqb want.function.arity want.function.arity) (same_tree want.function.body want.function.body)
    (eq-eqb want.function.arity want.function.arity refl) (tree_same want.function.body)))
    (cons_fit want.cons found.cons h.cons)

value_fits : (s : State) (env : Env) (path : List (List ℕ)) (want found : ValueEntry) → IsOfState s env
    → found_at values path env ≡ Some found → IsItemOf s (Item.ValueItem path want) → EnrichesValue s want found
    → fits_value s want found ≡ true
value_fits s env path want found of e own h =
    and_both (covers s found.scheme want.scheme) (has_status want.status found.status)
    ((covers_law s found.scheme want.scheme of.marks (of.values path found e) own).1 h.scheme)
    (status_fits want.status found.status h.status)

item_passes : (sc : Scope) (at : At) (s : State) (env : Env) (x : Item) → IsOfState s env → IsItemOf s x
    → EnrichesItem s env x → enriching_item sc at s env x ≡ gives tt
item_passes sc at s env (Item.StructureItem path) of own h =
    present_there sc at path (found_at structures path env) h.0 (λ e. gives tt) h.1
item_passes sc at s env (Item.TypeItem path want) of own h =
    present_there sc at path (found_at types path env) h.0
    (λ found. refuses_where (not (eqb want.function.arity found.function.arity)) 35 sc at
    >>= λ u. misfits_where (not (fits_type want found)) sc at path) h.1
    ∙ passes (not (eqb want.function.arity h.0.function.arity)) 35 sc at
    (λ u. misfits_where (not (fits_type want h.0)) sc at path)
    (not_true (eqb want.function.arity h.0.function.arity) (eq-eqb want.function.arity h.0.function.arity
    (sym (ap (λ (f : TypeFn). f.arity) h.2.function))))
    ∙ fits (not (fits_type want h.0)) sc at path (not_true (fits_type want h.0) (type_fits want h.0 h.2))
item_passes sc at s env (Item.ValueItem path want) of own h =
    present_there sc at path (found_at values path env) h.0
    (λ found. misfits_where (not (fits_value s want found)) sc at path) h.1
    ∙ fits (not (fits_value s want h.0)) sc at path
    (not_true (fits_value s want h.0) (value_fits s env path want h.0 of h.1 own h.2))

all_pass : (sc : Scope) (at : At) (s : State) (env : Env) (xs : List Item) → IsOfState s env
    → AllItems (IsItemOf s) xs → AllItems (EnrichesItem s env) xs → enriching_all sc at s env xs ≡ gives tt
all_pass sc at s env [] of own h = refl
all_pass sc at s env (x ∷ xs) of own h =
    ap (λ m. m >>= λ u. enriching_all sc at s env xs) (item_passes sc at s env x of own.0 h.0)
    ∙ all_pass sc at s env xs of own.1 h.1

-- ---- both

pub mapped : (P : Item → Type 0) (f : Item → Item) (xs : List Item) → AllItems P (map f xs) → AllItems (λ x. P (f x)) xs
mapped P f [] h = tt
mapped P f (x ∷ xs) h = (h.0, mapped P f xs h.1)

pub finds : (sc : Scope) (at : At) (s : State) (env : Env) (sig : Signature) (φ : Realisation) → IsOfState s env
    → StandAlone sig → AllItems (IsItemOf s) (items (realised φ sig.env)) → Matches s env sig φ
    → FindsRows sc at s env sig φ
finds sc at s env sig φ of alone own m =
    let holds : AllItems (Holds s env φ) (items sig.env) =
    mapped (EnrichesItem s env) (item_by (realised_tree φ)) (items sig.env)
    (subst (AllItems (EnrichesItem s env)) (items_by (realised_tree φ) [] sig.env) m.enriches) in
    let g : Goes φ sig.bound (items sig.env) [] (realising_all sc at s env sig.bound (items sig.env) []) =
    all_go sc at s env sig φ m (items sig.env) [] holds (λ name by h. absurd (none_some by h)) in
    let found : (name : TyName) → is_listed name sig.bound ≡ true
    → (by : TypeFn) × (of_rows g.rows name ≡ Some by) =
    λ name l. (let place : (path : List (List ℕ)) × (str : TypeStr)
    × IsOneOf (Item.TypeItem path str) (items sig.env) × (name_alone str.function ≡ Some name) = alone name l in
    g.reached place.0 place.1 name place.2 place.3 l) in
    let same : (name : TyName) → of_rows g.rows name ≡ φ name =
    λ name. either_way (is_listed name sig.bound)
    (λ l. (found name l).1 ∙ sym (g.within name (found name l).0 (found name l).1))
    (λ l. same_as φ g.rows name g.within (m.realises.others name l)) in
    let env_same : realised (of_rows g.rows) sig.env ≡ realised φ sig.env =
    realised_agrees (of_rows g.rows) φ sig.env (λ name l. same name) in
    record {
      rows = g.rows;
      found =
          ap (λ r. (r >>= λ rows. refuses_where (list_any (is_left rows) sig.bound) 37 sc at >>= λ u. gives rows)
          >>= λ rows. enriching_all sc at s env (items (realised (of_rows rows) sig.env)) >>= λ u. gives rows) g.is
          ∙ ap (λ c. (refuses_where c 37 sc at >>= λ u. gives g.rows)
          >>= λ rows. enriching_all sc at s env (items (realised (of_rows rows) sig.env)) >>= λ u. gives rows)
          (none_left g.rows sig.bound (λ name l. not_left g.rows name (found name l).0 (found name l).1))
          ∙ ap (λ e. enriching_all sc at s env (items e) >>= λ u. gives g.rows) env_same
          ∙ ap (λ r. r >>= λ u. gives g.rows)
          (all_pass sc at s env (items (realised φ sig.env)) of own m.enriches);
      same = same;
    }

pub where_one_does : MatchesWhereOneDoes
where_one_does = record {
  finds = finds;
  gives_it = λ sc at s env sig φ of alone own m. (let r : FindsRows sc at s env sig φ = finds sc at s env sig φ of
      alone own m in
      ap (λ q. q >>= λ rows. gives (realised (of_rows rows) sig.env)) r.found
      ∙ ap gives (realised_agrees (of_rows r.rows) φ sig.env (λ name l. r.same name)));
}
