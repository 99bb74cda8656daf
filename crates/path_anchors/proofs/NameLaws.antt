-- The names that paths have: what they are spelled of, and where they lie.
use Rattle.std.proofs.Common.{◌≡◌, ◌∙◌, ap, sym, refl, ℕ, ◌==◌, ◌||◌, Bool, true, false, not, List, [], ◌∷◌, ◌++◌, length, drop, Some, None, inl, inr, arith}
use Rattle.std.specs.Prelude.{◌⊎◌, Option, Ok, Err, nat_eq, is_some, if◌then◌else◌}
use Rattle.std.specs.Option.{option_map_or}
use Rattle.std.specs.Cmp.Lexicographic.{pointwise, nat_list_eq_equiv}
use Rattle.std.proofs.lemmas.List.{append_cancel_left}
use Rattle.std.proofs.lemmas.Bool.Decides.{nat_tests}
use Rattle.path_anchors.specs.declared.route.Route.{Route}
use Rattle.path_anchors.specs.Names.{Bindings, IsName, parts_of, path_of, is_marked, is_store, is_bound, is_claimed, all_but_last, anchor_named, anchored, plain_route, top_route, directory_of, below, route_of, walked, begins_with, begins_at_root, passes_limit, bound_to, plain_name, named, name_at, resolved, folder_parts, folder_path_of}
use Rattle.path_anchors.specs.Pathconfig.{AreBindings, is_in_store, touches}
use Rattle.path_anchors.specs.Laws.{LeadsDown, IsProjectPath, IsPlain, IsAnchored, FileHasOneName, NameMeansItself, NameLiesInProject, NameLiesWhereItSays}
use Rattle.path_anchors.proofs.Spelling.{Free, EachFree, EachFree-append, EachFree-all_but_last, EachFree-parts_of, parts_of-path_of}
use Rattle.path_anchors.proofs.Clean.{if_ok, Good, Good-free, Good-append, Good-walked, Good-down, walked-good}
use Rattle.path_anchors.proofs.ConfigLaws.{IsBinding, bound_good_at, one_anchor_at, unclaimed_at}

-- ---- routes of components without slashes

-- an anchor without a slash, if there is one
abbrev FreeAnchor : Option (List ℕ) → Type 0
FreeAnchor None = Unit {0}
FreeAnchor (Some anchor) = Free anchor

record FreeRoute (at : Route) : Type 0 where
  anchor : FreeAnchor at.anchor
  parts : EachFree at.parts

Free-anchor_named : (mark next : List ℕ) → Free mark → Free next → Free (anchor_named mark next)
Free-anchor_named mark next fm fn = by_test (length mark == 1)
  where
    dropped : (m : List ℕ) → Free m → Free (drop 1 m)
    dropped [] free = tt
    dropped (byte ∷ bytes) free = free.1

    by_test : (b : Bool) → Free (if b then next else drop 1 mark)
    by_test true = fn
    by_test false = dropped mark fm

-- a route that a list of components leads to, or another one that is known
Free-or : (parts : List (List ℕ)) (other : Route) → EachFree parts → FreeRoute other
    → FreeRoute (option_map_or (λ at. at) (anchored parts) other)
Free-or [] other free known = known
Free-or (mark ∷ []) other free known = known
Free-or (mark ∷ next ∷ parts) other free known = by_test (is_marked mark)
  where
    by_test : (b : Bool) → FreeRoute (option_map_or (λ at. at)
        (if b then Some (record { anchor = Some (anchor_named mark next); parts = next ∷ parts }) else None) other)
    by_test true = record { anchor = Free-anchor_named mark next free.0 free.1.0; parts = free.1 }
    by_test false = known

Free-top_route : (parts : List (List ℕ)) → EachFree parts → FreeRoute (top_route parts)
Free-top_route parts free = Free-or parts (plain_route parts) free (record { anchor = tt; parts = free })

Free-route_of : (base written : List (List ℕ)) → EachFree base → EachFree written → FreeRoute (route_of base written)
Free-route_of base written fb fw =
    let top = Free-top_route base fb in
    Free-or written (below (directory_of (top_route base)) written) fw (record {
      anchor = top.anchor;
      parts = EachFree-append (all_but_last (top_route base).parts) written
          (EachFree-all_but_last (top_route base).parts top.parts) fw;
    })

-- ---- what a name is spelled of

-- a plain name
record PlainName (anchors : Bindings) (name : List ℕ) : Type 0 where
  first : List ℕ
  parts : List (List ℕ)
  good : Good (first ∷ parts)
  spelled : name ≡ path_of (first ∷ parts)
  plain : is_marked first ≡ false
  project : is_store first ≡ false
  outside : is_claimed anchors (path_of (first ∷ parts)) ≡ false

-- the name of a file in an anchor's directory
record AnchoredName (anchors : Bindings) (name : List ℕ) : Type 0 where
  anchor : List ℕ
  first : List ℕ
  parts : List (List ℕ)
  free : Free anchor
  good : Good (first ∷ parts)
  spelled : name ≡ path_of ((36 ∷ anchor) ∷ first ∷ parts)
  bound : is_some (bound_to anchors anchor) ≡ true

plain_spelled : (anchors : Bindings) (name first : List ℕ) (parts : List (List ℕ)) → Good (first ∷ parts)
    → plain_name anchors (first ∷ parts) ≡ Ok name → PlainName anchors name
plain_spelled anchors name first parts good is =
    let marked = if_ok (is_marked first) _ _ name is in
    let stored = if_ok (is_store first) _ _ name marked.1 in
    let claimed = if_ok (is_claimed anchors (path_of (first ∷ parts))) _ _ name stored.1 in
    record {
      first = first;
      parts = parts;
      good = good;
      spelled = cc (claimed.1);
      plain = marked.0;
      project = stored.0;
      outside = claimed.0;
    }

named_spelled : (anchors : Bindings) (anchor : Option (List ℕ)) (led : Option (List (List ℕ))) (name : List ℕ)
    → FreeAnchor anchor → is_bound anchors anchor ≡ true
    → ((there : List (List ℕ)) → led ≡ Some there → Good there)
    → named anchors anchor led ≡ Ok name → PlainName anchors name ⊎ AnchoredName anchors name
named_spelled anchors anchor None name free bound good is = absurd cc
named_spelled anchors anchor (Some []) name free bound good is = absurd cc
named_spelled anchors None (Some (first ∷ parts)) name free bound good is =
    inl (plain_spelled anchors name first parts (good (first ∷ parts) refl) is)
named_spelled anchors (Some anchor) (Some (first ∷ parts)) name free bound good is =
    inr (record {
      anchor = anchor;
      first = first;
      parts = parts;
      free = free;
      good = good (first ∷ parts) refl;
      spelled = cc;
      bound = bound;
    })

not_false : (b : Bool) → not b ≡ false → b ≡ true
not_false true is = refl
not_false false is = absurd cc

spelled : (anchors : Bindings) (name : List ℕ) → IsName anchors name
    → PlainName anchors name ⊎ AnchoredName anchors name
spelled anchors name is =
    let base = parts_of is.base in
    let written = parts_of is.written in
    let at = route_of base written in
    let free = Free-route_of base written (EachFree-parts_of is.base) (EachFree-parts_of is.written) in
    let limit = if_ok (passes_limit is.written) _ _ name is.gives in
    let bound = if_ok (not (is_bound anchors at.anchor)) _ _ name limit.1 in
    let root = if_ok (begins_at_root is.written) _ _ name bound.1 in
    named_spelled anchors at.anchor (walked [] at.parts) name free.anchor (not_false _ bound.0)
    (λ there led. Good-walked at.parts [] there tt free.parts led) root.1

-- ---- where a name lies

-- the route of a plain name is plain
plain_top : (first : List ℕ) (parts : List (List ℕ)) → is_marked first ≡ false
    → top_route (first ∷ parts) ≡ plain_route (first ∷ parts)
plain_top first [] plain = refl
plain_top first (next ∷ parts) plain = rw plain refl

-- .. and that of an anchored one is anchored
one_more : (anchor : List ℕ) → (length anchor == 0) ≡ false → (length (36 ∷ anchor) == 1) ≡ false
one_more anchor some = grind (arith, nat_tests)

anchored_top : (anchor first : List ℕ) (parts : List (List ℕ)) → (length anchor == 0) ≡ false
    → anchored ((36 ∷ anchor) ∷ first ∷ parts) ≡ Some (record { anchor = Some anchor; parts = first ∷ parts })
anchored_top anchor first parts some = rw (one_more anchor some) refl

-- the components of a plain name's path
plain_parts : (anchors : Bindings) (name : List ℕ) (is : PlainName anchors name)
    → folder_parts anchors (top_route (parts_of name)) ≡ is.first ∷ is.parts
plain_parts anchors name is =
    ap (λ n. folder_parts anchors (top_route (parts_of n))) is.spelled
    ∙ ap (λ ps. folder_parts anchors (top_route ps)) (parts_of-path_of is.first is.parts (Good-free (is.first ∷ is.parts) is.good))
    ∙ ap (folder_parts anchors) (plain_top is.first is.parts is.plain)

plain_path : (anchors : Bindings) (name : List ℕ) (is : PlainName anchors name) → folder_path_of anchors name ≡ name
plain_path anchors name is = ap path_of (plain_parts anchors name is) ∙ sym is.spelled

-- an anchored name with its directory
record Below (anchors : Bindings) (name : List ℕ) (is : AnchoredName anchors name) : Type 0 where
  directory : List ℕ
  first : List ℕ
  others : List (List ℕ)
  held : bound_to anchors is.anchor ≡ Some directory
  parts : parts_of directory ≡ first ∷ others
  good : Good (first ∷ others)
  project : is_store first ≡ false
  top : anchored (parts_of name) ≡ Some (record { anchor = Some is.anchor; parts = is.first ∷ is.parts })
  lies : folder_parts anchors (top_route (parts_of name)) ≡ (first ∷ others) ++ (is.first ∷ is.parts)

below_directory : (anchors : Bindings) (name : List ℕ) (is : AnchoredName anchors name) (directory : List ℕ)
    → bound_to anchors is.anchor ≡ Some directory → IsBinding (is.anchor, directory) → Below anchors name is
below_directory anchors name is directory held binding =
    let parts : parts_of directory ≡ binding.first ∷ binding.parts =
    ap parts_of binding.spelled ∙ parts_of-path_of binding.first binding.parts (Good-free (binding.first ∷ binding.parts) binding.good) in
    let free : EachFree ((36 ∷ is.anchor) ∷ is.first ∷ is.parts) =
    ((refl, is.free), Good-free (is.first ∷ is.parts) is.good) in
    let top : anchored (parts_of name) ≡ Some (record { anchor = Some is.anchor; parts = is.first ∷ is.parts }) =
    ap (λ n. anchored (parts_of n)) is.spelled
    ∙ ap anchored (parts_of-path_of (36 ∷ is.anchor) (is.first ∷ is.parts) free)
    ∙ anchored_top is.anchor is.first is.parts binding.anchor in
    record {
      directory = directory;
      first = binding.first;
      others = binding.parts;
      held = held;
      parts = parts;
      good = binding.good;
      project = binding.project;
      top = top;
      lies = ap (λ o. folder_parts anchors (option_map_or (λ at. at) o (plain_route (parts_of name)))) top
          ∙ ap (λ o. option_map_or parts_of o [] ++ (is.first ∷ is.parts)) held
          ∙ ap (λ ps. ps ++ (is.first ∷ is.parts)) parts;
    }

is_below : (anchors : Bindings) (name : List ℕ) → AreBindings anchors → (is : AnchoredName anchors name) → Below anchors name is
is_below anchors name are is = by_look_up (bound_to anchors is.anchor) refl is.bound
  where
    by_look_up : (o : Option (List ℕ)) → bound_to anchors is.anchor ≡ o → is_some o ≡ true → Below anchors name is
    by_look_up None so some = absurd cc
    by_look_up (Some directory) so some =
        below_directory anchors name is directory so (bound_good_at anchors is.anchor directory are so)

-- the components of the path of an anchored name
anchored_parts : (anchors : Bindings) (name : List ℕ) (is : AnchoredName anchors name) (at : Below anchors name is)
    → parts_of (folder_path_of anchors name) ≡ (at.first ∷ at.others) ++ (is.first ∷ is.parts)
anchored_parts anchors name is at =
    ap (λ ps. parts_of (path_of ps)) at.lies
    ∙ parts_of-path_of at.first (at.others ++ (is.first ∷ is.parts))
    (Good-free ((at.first ∷ at.others) ++ (is.first ∷ is.parts)) (Good-append (at.first ∷ at.others) (is.first ∷ is.parts) at.good is.good))

plain_path_parts : (anchors : Bindings) (name : List ℕ) (is : PlainName anchors name)
    → parts_of (folder_path_of anchors name) ≡ is.first ∷ is.parts
plain_path_parts anchors name is =
    ap (λ ps. parts_of (path_of ps)) (plain_parts anchors name is)
    ∙ parts_of-path_of is.first is.parts (Good-free (is.first ∷ is.parts) is.good)

-- ---- a name lies in the project

project_path : (path first : List ℕ) (parts : List (List ℕ)) → parts_of path ≡ first ∷ parts → Good (first ∷ parts)
    → is_store first ≡ false → IsProjectPath path
project_path path first parts are good project = record {
  down = rw are (Good-down (first ∷ parts) good);
  project = ap is_in_store are ∙ project;
}

pub lies_in_project : NameLiesInProject
lies_in_project anchors name are is = by_cases (spelled anchors name is)
  where
    by_cases : PlainName anchors name ⊎ AnchoredName anchors name → IsProjectPath (folder_path_of anchors name)
    by_cases (inl plain) =
        project_path _ plain.first plain.parts (plain_path_parts anchors name plain) plain.good plain.project
    by_cases (inr name_is) =
        let at = is_below anchors name are name_is in
        project_path _ at.first (at.others ++ (name_is.first ∷ name_is.parts)) (anchored_parts anchors name name_is at)
        (Good-append (at.first ∷ at.others) (name_is.first ∷ name_is.parts) at.good name_is.good) at.project

pub lies_where_it_says : NameLiesWhereItSays
lies_where_it_says anchors name are is = by_cases (spelled anchors name is)
  where
    by_cases : PlainName anchors name ⊎ AnchoredName anchors name → IsPlain anchors name ⊎ IsAnchored anchors name
    by_cases (inl plain) = inl (record {
      path = plain_path anchors name plain;
      outside = ap (is_claimed anchors) plain.spelled ∙ plain.outside;
    })
    by_cases (inr name_is) =
        let at = is_below anchors name are name_is in
        inr (record {
          anchor = name_is.anchor;
          directory = at.directory;
          parts = name_is.first ∷ name_is.parts;
          spelled = name_is.spelled;
          bound = at.held;
          path = anchored_parts anchors name name_is at ∙ ap (λ ps. ps ++ (name_is.first ∷ name_is.parts)) (sym at.parts);
        })

-- ---- one name

-- a list begins with its front
begins_with-append : (front rest : List (List ℕ)) → begins_with (front ++ rest) front ≡ true
begins_with-append [] rest = by_list rest
  where
    by_list : (rest : List (List ℕ)) → begins_with rest [] ≡ true
    by_list [] = refl
    by_list (part ∷ rest) = refl
begins_with-append (part ∷ front) rest =
    rw (nat_list_eq_equiv.refl part) (begins_with-append front rest)

-- of two fronts of one list one begins with the other
touches-fronts : (a b p q : List (List ℕ)) → a ++ p ≡ b ++ q → touches a b ≡ true
touches-fronts [] b p q is = ap (λ t. begins_with [] b || t) (begins_with-append [] b) ∙ either_true (begins_with [] b)
  where
    either_true : (t : Bool) → (t || true) ≡ true
    either_true true = refl
    either_true false = refl
touches-fronts (part ∷ a) [] p q is = refl
touches-fronts (part ∷ a) (other ∷ b) p q is =
    let same : part ≡ other = cc in
    let rest : a ++ p ≡ b ++ q = cc in
    let one : pointwise nat_eq other part ≡ true = ap (λ x. pointwise nat_eq x part) (sym same) ∙ nat_list_eq_equiv.refl part in
    let two : pointwise nat_eq part other ≡ true = ap (λ x. pointwise nat_eq part x) (sym same) ∙ nat_list_eq_equiv.refl part in
    rw (one, two) (touches-fronts a b p q rest)

-- the two kinds of names lie apart
plain_apart : (anchors : Bindings) (a b : List ℕ) → (x : PlainName anchors a) (y : AnchoredName anchors b)
    → AreBindings anchors → folder_path_of anchors a ≡ folder_path_of anchors b → ⊥
plain_apart anchors a b x y are same =
    let at = is_below anchors b are y in
    let parts : x.first ∷ x.parts ≡ (at.first ∷ at.others) ++ (y.first ∷ y.parts) =
    sym (plain_path_parts anchors a x) ∙ ap parts_of same ∙ anchored_parts anchors b y at in
    let spelled_parts : parts_of (path_of (x.first ∷ x.parts)) ≡ parts_of at.directory ++ (y.first ∷ y.parts) =
    parts_of-path_of x.first x.parts (Good-free (x.first ∷ x.parts) x.good) ∙ parts
    ∙ ap (λ ps. ps ++ (y.first ∷ y.parts)) (sym at.parts) in
    let outside : begins_with (parts_of (path_of (x.first ∷ x.parts))) (parts_of at.directory) ≡ false =
    unclaimed_at anchors _ y.anchor at.directory x.outside at.held in
    let inside : begins_with (parts_of (path_of (x.first ∷ x.parts))) (parts_of at.directory) ≡ true =
    ap (λ ps. begins_with ps (parts_of at.directory)) spelled_parts
    ∙ begins_with-append (parts_of at.directory) (y.first ∷ y.parts) in
    absurd (cc (outside, inside))

-- anchored names of one file have one anchor, and then one rest
anchored_one : (anchors : Bindings) (a b : List ℕ) → (x : AnchoredName anchors a) (y : AnchoredName anchors b)
    → AreBindings anchors → folder_path_of anchors a ≡ folder_path_of anchors b → a ≡ b
anchored_one anchors a b x y are same =
    let at = is_below anchors a are x in
    let other = is_below anchors b are y in
    let parts : parts_of at.directory ++ (x.first ∷ x.parts) ≡ parts_of other.directory ++ (y.first ∷ y.parts) =
    ap (λ ps. ps ++ (x.first ∷ x.parts)) at.parts ∙ sym (anchored_parts anchors a x at) ∙ ap parts_of same
    ∙ anchored_parts anchors b y other ∙ ap (λ ps. ps ++ (y.first ∷ y.parts)) (sym other.parts) in
    let anchor : x.anchor ≡ y.anchor =
    one_anchor_at anchors x.anchor y.anchor at.directory other.directory are at.held other.held
    (touches-fronts (parts_of at.directory) (parts_of other.directory) _ _ parts) in
    let found : Some at.directory ≡ Some other.directory = sym at.held ∙ ap (bound_to anchors) anchor ∙ other.held in
    let directory : at.directory ≡ other.directory = cc in
    let rest : x.first ∷ x.parts ≡ y.first ∷ y.parts =
    append_cancel_left (parts_of at.directory) (x.first ∷ x.parts) (y.first ∷ y.parts)
    (parts ∙ ap (λ d. parts_of d ++ (y.first ∷ y.parts)) (sym directory)) in
    x.spelled ∙ ap (λ n. path_of ((36 ∷ n) ∷ x.first ∷ x.parts)) anchor
    ∙ ap (λ ps. path_of ((36 ∷ y.anchor) ∷ ps)) rest ∙ sym y.spelled

pub file_has_one_name : FileHasOneName
file_has_one_name anchors a b are ia ib same = by_cases (spelled anchors a ia) (spelled anchors b ib)
  where
    by_cases : PlainName anchors a ⊎ AnchoredName anchors a → PlainName anchors b ⊎ AnchoredName anchors b → a ≡ b
    by_cases (inl x) (inl y) = sym (plain_path anchors a x) ∙ same ∙ plain_path anchors b y
    by_cases (inl x) (inr y) = absurd (plain_apart anchors a b x y are same)
    by_cases (inr x) (inl y) = absurd (plain_apart anchors b a y x are (sym same))
    by_cases (inr x) (inr y) = anchored_one anchors a b x y are same

-- ---- a name means itself

if_else : {A : Type 0} (b : Bool) (x y : A) → b ≡ false → (if b then x else y) ≡ y
if_else true x y is = absurd cc
if_else false x y is = refl

-- components that lead down don't begin with a slash
not_root : (first : List ℕ) (parts : List (List ℕ)) → LeadsDown first → Free first
    → begins_at_root (path_of (first ∷ parts)) ≡ false
not_root [] parts down free = absurd (cc (down.stay))
not_root (byte ∷ bytes) [] down free = free.0
not_root (byte ∷ bytes) (next ∷ parts) down free = free.0

-- the route of a plain name at the top
plain_written : (first : List ℕ) (parts : List (List ℕ)) → is_marked first ≡ false
    → route_of (parts_of []) (first ∷ parts) ≡ plain_route (first ∷ parts)
plain_written first [] plain = refl
plain_written first (next ∷ parts) plain = rw plain refl

plain_itself : (anchors : Bindings) (name : List ℕ) → PlainName anchors name → passes_limit name ≡ false
    → resolved anchors [] name ≡ Ok name
plain_itself anchors name is limit =
    let whole = is.first ∷ is.parts in
    let parts : parts_of name ≡ is.first ∷ is.parts =
    ap parts_of is.spelled ∙ parts_of-path_of is.first is.parts (Good-free (is.first ∷ is.parts) is.good) in
    let root : begins_at_root name ≡ false = ap begins_at_root is.spelled ∙ not_root is.first is.parts is.good.0.0 is.good.0.1 in
    if_else (passes_limit name) _ _ limit
    ∙ ap (λ at. name_at anchors at name) (ap (route_of (parts_of [])) parts ∙ plain_written is.first is.parts is.plain)
    ∙ if_else (begins_at_root name) (Err 6) (named anchors None (walked [] (is.first ∷ is.parts))) root
    ∙ ap (named anchors None) (walked-good (is.first ∷ is.parts) [] is.good)
    ∙ if_else (is_marked is.first) _ _ is.plain
    ∙ if_else (is_store is.first) _ _ is.project
    ∙ if_else (is_claimed anchors (path_of (is.first ∷ is.parts))) _ _ is.outside
    ∙ ap Ok (sym is.spelled)

anchored_itself : (anchors : Bindings) (name : List ℕ) (is : AnchoredName anchors name) → Below anchors name is
    → passes_limit name ≡ false → resolved anchors [] name ≡ Ok name
anchored_itself anchors name is at limit =
    let bound : not (is_bound anchors (Some is.anchor)) ≡ false = ap not is.bound in
    let root : begins_at_root name ≡ false = ap begins_at_root is.spelled in
    if_else (passes_limit name) _ _ limit
    ∙ ap (λ o. name_at anchors (option_map_or (λ at. at) o (below (directory_of (top_route (parts_of []))) (parts_of name))) name) at.top
    ∙ if_else (not (is_bound anchors (Some is.anchor))) (Err 5) (if begins_at_root name then Err 6 else named anchors (Some is.anchor) (walked [] (is.first ∷ is.parts))) bound
    ∙ if_else (begins_at_root name) (Err 6) (named anchors (Some is.anchor) (walked [] (is.first ∷ is.parts))) root
    ∙ ap (named anchors (Some is.anchor)) (walked-good (is.first ∷ is.parts) [] is.good)
    ∙ ap Ok (sym is.spelled)

pub name_means_itself : NameMeansItself
name_means_itself anchors name are is limit = by_cases (spelled anchors name is)
  where
    by_cases : PlainName anchors name ⊎ AnchoredName anchors name → resolved anchors [] name ≡ Ok name
    by_cases (inl plain) = plain_itself anchors name plain limit
    by_cases (inr name_is) = anchored_itself anchors name name_is (is_below anchors name are name_is) limit
