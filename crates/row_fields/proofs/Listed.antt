-- Lists of fields, behind their counts.
use Rattle.std.proofs.Common.{◌≡◌, ◌≢◌, ℕ, suc, ◌+◌, ◌<◌, refl, sym, ap, subst, ◌∙◌, List, [], ◌∷◌, ◌++◌, length, map, arith, Option, Some, None, Result, Ok, Err}
use Rattle.std.proofs.lemmas.List.{length-append, map-append}
use Rattle.std.specs.List.{AllByRecursion}
use Rattle.cm_base.specs.declared.fault.NoMemory.{NoMemory}
use Rattle.cm_bytes.specs.Fields.{u32_of}
use Rattle.node_bytes.specs.Nodes.{Node, Content}
use Rattle.node_bytes.specs.Shapes.{with_number, with_text, with_items, with_list}
use Rattle.node_bytes.specs.Tables.{content_of}
use Rattle.node_bytes.specs.declared.table.Item.{Item}
use Rattle.interface_format.specs.Rules.{IsNumber}
use Rattle.interface_format.proofs.Told.{Tells, number_told}
use Rattle.row_fields.specs.Taking.{Begins, NeverBegins, IsAny, IsText, part_of, with_status}
use Rattle.row_fields.specs.Owning.{TakesOwned}
use Rattle.row_fields.specs.Listing.{each_of, AreMany, AreItems, HasName, IsValueName}
use Rattle.semantic_objects.specs.declared.entry.VidStatus.{VidStatus}
use Rattle.interface_format.specs.Tags.{with_named, with_value}
use Rattle.interface_nodes.specs.Fields.{row_at, value_at}

-- ---- one item more

each_snoc : {A : Type 0} (Fits : A → Type 0) (xs : List A) (x : A) → AllByRecursion Fits xs → Fits x
    → AllByRecursion Fits (xs ++ x ∷ [])
each_snoc Fits [] x h k = (k, tt)
each_snoc Fits (y ∷ xs) x h k = (h.0, each_snoc Fits xs x h.1 k)

items_snoc : {A : Type 0} (with_item : A → Content → Content) (xs : List A) (x : A) (c : Content)
    → with_items with_item (xs ++ x ∷ []) c ≡ with_items with_item xs (with_item x c)
items_snoc with_item [] x c = refl
items_snoc with_item (y ∷ xs) x c = ap (with_item y) (items_snoc with_item xs x c)

pub one_more : {X A : Type 0} (value : List Node → X → A) (Fits : A → Type 0) (with_item : A → Content → Content)
    (xs all : List X) (x : X) (n m : ℕ) (items middle rest : List Item)
    → ((made : List Node) → Begins (AreMany n Fits) (with_items with_item) made (each_of value made xs) items middle)
    → ((made : List Node) → Begins Fits with_item made (value made x) middle rest) → all ≡ xs ++ x ∷ [] → m ≡ n + 1
    → (made : List Node) → Begins (AreMany m Fits) (with_items with_item) made (each_of value made all) items rest
one_more value Fits with_item xs all x n m items middle rest h k e is made =
    let b = h made in
    let i = k made in
    let snoc : each_of value made all ≡ each_of value made xs ++ value made x ∷ [] =
    ap (map (value made)) e ∙ map-append (value made) xs (x ∷ []) in
    let counted : length (each_of value made xs ++ value made x ∷ []) ≡ m =
    length-append (each_of value made xs) (value made x ∷ []) ∙ ap (λ z. z + 1) b.fits.counted ∙ sym is in
    subst (λ ys. Begins (AreMany m Fits) (with_items with_item) made ys items rest) (sym snoc) (record {
      fits = record {
        counted = counted;
        each = each_snoc Fits (each_of value made xs) (value made x) b.fits.each i.fits;
      };
      is = b.is ∙ ap (with_items with_item (each_of value made xs)) i.is
          ∙ sym (items_snoc with_item (each_of value made xs) (value made x) (content_of made rest));
    })

pub none_yet : {X A : Type 0} (value : List Node → X → A) (Fits : A → Type 0) (with_item : A → Content → Content)
    (xs : List X) (items : List Item) → xs ≡ [] → (made : List Node)
    → Begins (AreMany 0 Fits) (with_items with_item) made (each_of value made xs) items items
none_yet {X} value Fits with_item xs items e made =
    subst (λ (ys : List X). Begins (AreMany 0 Fits) (with_items with_item) made (each_of value made ys) items items)
    (sym e) (record { fits = record { counted = refl; each = tt }; is = refl })

-- ---- an item less

suc_less : (m n : ℕ) → suc m < suc n → m < n
suc_less m n h = omega (arith, h)

short_never : {A : Type 0} (with_item : A → Content → Content) → Tells with_item → (Fits : A → Type 0)
    → (xs ys : List A) (c d : Content) → ((y : A) (e : Content) → Fits y → c ≢ with_item y e)
    → length xs < length ys → AllByRecursion Fits ys → with_items with_item xs c ≡ with_items with_item ys d → ⊥
short_never with_item tells Fits [] [] c d never lt h e = absurd (omega (arith, lt))
short_never with_item tells Fits (x ∷ xs) [] c d never lt h e = absurd (omega (arith, lt))
short_never with_item tells Fits [] (y ∷ ys) c d never lt h e = never y (with_items with_item ys d) h.0 e
short_never with_item tells Fits (x ∷ xs) (y ∷ ys) c d never lt h e =
    short_never with_item tells Fits xs ys c d never (suc_less (length xs) (length ys) lt) h.1
    (tells x y (with_items with_item xs c) (with_items with_item ys d) e).rest

pub too_few : {X A : Type 0} (value : List Node → X → A) (Fits : A → Type 0) (with_item : A → Content → Content)
    → Tells with_item → (xs : List X) (n count : ℕ) (items middle : List Item)
    → ((made : List Node) → Begins (AreMany n Fits) (with_items with_item) made (each_of value made xs) items middle)
    → NeverBegins Fits with_item middle → n < count → NeverBegins (AreMany count Fits) (with_items with_item) items
too_few value Fits with_item tells xs n count items middle h never lt = record {
  never = λ made ys c f e.
      let b = h made in
      let few : length (each_of value made xs) < length ys =
      subst (λ k. k < length ys) (sym b.fits.counted) (subst (λ k. n < k) (sym f.counted) lt) in
      short_never with_item tells Fits (each_of value made xs) ys (content_of made middle) c
      (λ y d fits is. never.never made y d fits is) few f.each (sym b.is ∙ e);
}

-- ---- the count before

number_rest : (m n : ℕ) (c d : Content) → with_number m c ≡ with_number n d → (u32_of m ≡ u32_of n) × (c ≡ d)
number_rest m n c d e = (cc, cc)

pub list_taken : {X A : Type 0} (value : List Node → X → A) (Fits : A → Type 0) (with_item : A → Content → Content)
    (n : ℕ) (found : Result (Option (List X)) NoMemory) (items middle rest : List Item)
    → ((made : List Node) → Begins IsNumber with_number made n items middle)
    → TakesOwned (each_of value) (AreMany n Fits) (with_items with_item) found middle rest
    → TakesOwned (each_of value) (AreItems Fits) (with_list with_item) found items rest
list_taken value Fits with_item n (Ok (Some xs)) items middle rest h k = λ made.
    let b = h made in
    let i = k made in
    record {
      fits = record { counted = subst IsNumber (sym i.fits.counted) b.fits; each = i.fits.each };
      is = b.is ∙ ap (with_number n) i.is
          ∙ ap (λ m. with_number m (with_items with_item (each_of value made xs) (content_of made rest)))
          (sym i.fits.counted);
    }
list_taken value Fits with_item n (Ok None) items middle rest h k = record {
  never = λ made ys c f e.
      let b = h made in
      let p = number_rest n (length ys) (content_of made middle) (with_items with_item ys c) (sym b.is ∙ e) in
      let same : n ≡ length ys = number_told n (length ys) b.fits f.counted p.0 in
      k.never made ys c (record { counted = sym same; each = f.each }) p.1;
}
list_taken value Fits with_item n (Err e) items middle rest h k = tt

pub list_never : {A : Type 0} (Fits : A → Type 0) (with_item : A → Content → Content) (items : List Item)
    → NeverBegins IsNumber with_number items → NeverBegins (AreItems Fits) (with_list with_item) items
list_never Fits with_item items h = record {
  never = λ made ys c f e. h.never made (length ys) (with_items with_item ys c) f.counted e;
}

-- ---- rows

pub row_taken : (name copy : List ℕ) (place : ℕ) (a b c : List Item)
    → ((made : List Node) → Begins IsText with_text made name a b)
    → ((made : List Node) → Begins IsAny Content.part made (part_of made place) b c) → copy ≡ name
    → (made : List Node) → Begins HasName with_named made (row_at made (record { name = copy; place = place })) a c
row_taken name copy place a b c n p e made =
    subst (λ (z : List ℕ). Begins HasName with_named made (row_at made (record { name = z; place = place })) a c) (sym e)
    (record { fits = (n made).fits; is = (n made).is ∙ ap (with_text name) ((p made).is) })

pub value_taken : (name copy : List ℕ) (status : VidStatus) (place : ℕ) (a b c d : List Item)
    → ((made : List Node) → Begins IsText with_text made name a b)
    → ((made : List Node) → Begins IsAny with_status made status b c)
    → ((made : List Node) → Begins IsAny Content.part made (part_of made place) c d) → copy ≡ name → (made : List Node)
    → Begins IsValueName with_value made (value_at made (record { name = copy; status = status; place = place })) a d
value_taken name copy status place a b c d n s p e made =
    subst (λ (z : List ℕ). Begins IsValueName with_value made
    (value_at made (record { name = z; status = status; place = place })) a d) (sym e)
    (record {
      fits = (n made).fits;
      is = (n made).is ∙ ap (with_text name) ((s made).is ∙ ap (with_status status) ((p made).is));
    })
