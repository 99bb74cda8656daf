-- Meanings one behind the other: how the whole ends, and what it leaves, by how its parts do.
use Rattle.std.proofs.Common.{◌≡◌, ◌∙◌, sym, ap, subst, refl, arith, ℕ, ◌+◌, ◌<◌, ◌≤◌, List, [], ◌++◌, map, Option, Some, take, drop, length, append-nil, append_assoc}
use Rattle.std.specs.Prelude.{Contains}
use Rattle.std.specs.FinMap.{get}
use Rattle.std.proofs.lemmas.List.{get_or-map, length-map, take-append-drop}
use Rattle.std.proofs.lemmas.List.Elements.{Contains-append_left, Contains-append_right}
use Rattle.std.proofs.Math.Seq.{take-append-add, take-append_seam}
use Rattle.cm_base.specs.Causes.{HasCause}
use Rattle.cm_base.specs.Definitions.{Definitions}
use Rattle.cm_base.specs.Files.{Files}
use Rattle.cm_base.specs.Keeping.{Keeps}
use Rattle.cm_base.proofs.FrontLemmas.{grows_after, grows_more}
use Rattle.cm_base.proofs.KeepingLemmas.{keeps_same, keeps_then, keeps_wider}
use Rattle.cm_bytes.specs.Hashes.{HashesApart}
use Rattle.bin_store.specs.GoodStore.{IsGoodStore, StoreIsGood}
use Rattle.bin_store.proofs.GoodAfter.{good_is_told, store_more}
use Rattle.command_parts.specs.Headline.{Ends, FromGood, IsCutOff, IsCutShort, IsMeaning, IsPlain, KeepsOutside, Run}
use Rattle.command_parts.specs.Meaning.{Meaning}
use Rattle.command_parts.specs.Performing.{Performs, State, between}
use Rattle.command_parts.specs.InTurn.{at_end, then_command}
use Rattle.command_parts.specs.declared.status.Status.{Status}
use Rattle.command_parts.specs.declared.status.Status.TheVariants as status
use Rattle.command_parts.proofs.Ending.{stays_still}

pub contains_map : {A B : Type 0} (f : A → B) (xs : List A) (x : A) → Contains xs x → Contains (map f xs) (f x)
contains_map f xs x (i, within, at) =
    (i, subst (λ n. i < n) (sym (length-map xs f)) within, get_or-map f xs i x (f x) within ∙ ap f at)

-- a front of the first of two lists is one of both
pub take_within : (n : ℕ) (xs ys : List ℕ) → (k : ℕ) × (take k (xs ++ ys) ≡ take n xs)
take_within n xs ys =
    let front = take n xs in
    let whole = ap (λ l. l ++ ys) (sym (take-append-drop n xs)) ∙ append_assoc front (drop n xs) ys in
    (length front, ap (take (length front)) whole ∙ take-append_seam front (drop n xs ++ ys))

-- ---- how the whole ends

module _ (first rest : Meaning) (text : List ℕ) (s0 s1 s2 : State) (f : IsMeaning first status.Ok (between text s0 s1)) where
  abbrev now : List ℕ
  now = text ++ first.output

  whole_then : (end : Status) → IsMeaning rest end (between now s1 s2)
      → IsMeaning (then_command first rest) end (between text s0 s2)
  whole_then end r = record {
    status = r.status;
    output = r.output ∙ ap Some (append_assoc text first.output rest.output);
    files = r.files;
    asks = r.asks ∙ ap (λ l. l ++ rest.asked) f.asks ∙ append_assoc s0.asked first.asked rest.asked;
    asks_skeletons = r.asks_skeletons ∙ ap (λ l. l ++ rest.asked_skeletons) f.asks_skeletons
        ∙ append_assoc s0.skeletons first.asked_skeletons rest.asked_skeletons;
  }

  cut_then : (printed : List ℕ) → IsCutOff rest printed (between now s1 s2)
      → IsCutOff (then_command first rest) (first.output ++ printed) (between text s0 s2)
  cut_then printed c = record {
    output = c.output ∙ ap Some (append_assoc text first.output printed);
    asks = grows_after s0.asked s1.asked s2.asked first.asked rest.asked (first.asked ++ rest.asked) refl f.asks c.asks;
    asks_skeletons = grows_after s0.skeletons s1.skeletons s2.skeletons first.asked_skeletons rest.asked_skeletons
        (first.asked_skeletons ++ rest.asked_skeletons) refl f.asks_skeletons c.asks_skeletons;
  }

  short_then : IsCutShort rest (between now s1 s2) → IsCutShort (then_command first rest) (between text s0 s2)
  short_then c = record {
    printed = first.output ++ c.printed;
    one = Contains-append_right first.cuts (map (λ printed. first.output ++ printed) rest.cuts) (first.output ++ c.printed)
        (contains_map (λ printed. first.output ++ printed) rest.cuts c.printed c.one);
    cut = cut_then c.printed c.cut;
  }

  then_ends : (end : Status) → Ends end rest (between now s1 s2) → Ends end (then_command first rest) (between text s0 s2)
  then_ends status.Ok r = whole_then status.Ok r
  then_ends status.Diagnostic r = whole_then status.Diagnostic r
  then_ends status.Usage r = whole_then status.Usage r
  then_ends status.FolderFault r = short_then r
  then_ends status.SinkFault r = (
    length first.output + r.0,
    subst (λ printed. IsCutOff (then_command first rest) printed (between text s0 s2))
        (sym (take-append-add first.output rest.output r.0)) (cut_then (take r.0 rest.output) r.1),
  )
  then_ends status.NoMemory r = short_then r
  then_ends status.ToolFault r = short_then r

-- .. and where the first was cut off
module _ (first rest : Meaning) (run : Run) where
  cut_first : (printed : List ℕ) → IsCutOff first printed run → IsCutOff (then_command first rest) printed run
  cut_first printed c = record {
    output = c.output;
    asks = grows_more run.asked run.asked_then first.asked rest.asked (first.asked ++ rest.asked) refl c.asks;
    asks_skeletons = grows_more run.skeletons run.skeletons_then first.asked_skeletons rest.asked_skeletons
        (first.asked_skeletons ++ rest.asked_skeletons) refl c.asks_skeletons;
  }

  short_first : IsCutShort first run → IsCutShort (then_command first rest) run
  short_first c = record {
    printed = c.printed;
    one = Contains-append_left first.cuts (map (λ printed. first.output ++ printed) rest.cuts) c.printed c.one;
    cut = cut_first c.printed c.cut;
  }

  first_ends : (end : Status) → (IsPlain end → ⊥) → Ends end first run → Ends end (then_command first rest) run
  first_ends status.Ok fault e = absurd (fault tt)
  first_ends status.Diagnostic fault e = absurd (fault tt)
  first_ends status.Usage fault e = absurd (fault tt)
  first_ends status.FolderFault fault e = short_first e
  first_ends status.SinkFault fault e =
      let front = take_within e.0 first.output rest.output in (
        front.0,
        subst (λ printed. IsCutOff (then_command first rest) printed run) (sym front.1)
            (cut_first (take e.0 first.output) e.1),
      )
  first_ends status.NoMemory fault e = short_first e
  first_ends status.ToolFault fault e = short_first e

-- ---- what is left

outside_then : (files here : Files) (s1 s2 : Option Files) (ps qs : List (List ℕ)) → s1 ≡ Some here
    → KeepsOutside ps files s1 → KeepsOutside qs here s2 → KeepsOutside (ps ++ qs) files s2
outside_then files here s1 s2 ps qs is one two = record {
  after = two.after;
  tells = two.tells;
  kept = λ path out apart.
      let same : one.after ≡ here = cc (one.tells, is) in
      two.kept path out (λ h. apart (Contains-append_right ps qs path h))
      ∙ sym (ap (λ fs. get fs path) same)
      ∙ one.kept path out (λ h. apart (Contains-append_left ps qs path h));
}

-- .. of fewer paths
pub outside_in : (files : Files) (s : Option Files) (ps qs : List (List ℕ))
    → ((path : List ℕ) → Contains ps path → Contains qs path) → KeepsOutside ps files s → KeepsOutside qs files s
outside_in files s ps qs more one = record {
  after = one.after;
  tells = one.tells;
  kept = λ path out apart. one.kept path out (λ h. apart (more path h));
}

outside_more : (files : Files) (s : Option Files) (ps qs : List (List ℕ)) → KeepsOutside ps files s
    → KeepsOutside (ps ++ qs) files s
outside_more files s ps qs one = record {
  after = one.after;
  tells = one.tells;
  kept = λ path out apart. one.kept path out (λ h. apart (Contains-append_left ps qs path h));
}

pub apart_left : (xs ys zs : List (List ℕ)) → HashesApart (xs ++ (ys ++ zs)) → HashesApart (xs ++ ys)
apart_left xs ys zs apart = record {
  apart = λ a b ia ib same.
      let more : (t : List ℕ) → Contains (xs ++ ys) t → Contains (xs ++ (ys ++ zs)) t =
      λ t h. subst (λ l. Contains l t) (append_assoc xs ys zs) (Contains-append_left (xs ++ ys) zs t h) in
      apart.apart a b (more a ia) (more b ib) same;
}

-- ---- pieces

-- one piece and then another
module _ (by : Definitions) (d1 m1 d2 m2 : Files → Meaning) (end : Status) (s0 s1 s2 : State)
    (one : Performs by d1 m1 status.Ok s0 s1) (two : Performs by d2 m2 end s1 s2) where
  abbrev both : (Files → Meaning) → (Files → Meaning) → Files → Meaning
  both a b files = then_command (a files) (b (a files).files)

  -- from a good store the second begins with one, for all that is known then
  pub record Second (known : List (List ℕ)) (files : Files) : Type 0 where
    pub holds : s1.holds ≡ Some (m1 files).files
    pub good : IsGoodStore by (known ++ (m1 files).interfaces) (m1 files).files
    pub apart : HashesApart ((known ++ (m1 files).interfaces) ++ (m2 (m1 files).files).interfaces)
    pub left : HashesApart (known ++ (m1 files).interfaces)

  pub second : (known : List (List ℕ)) (files : Files) → s0.holds ≡ Some files
      → HashesApart (known ++ (both m1 m2 files).interfaces) → IsGoodStore by known files → Second known files
  second known files is apart good =
      let i1 = (m1 files).interfaces in
      let i2 = (m2 (m1 files).files).interfaces in
      let left = apart_left known i1 i2 apart in
      let holds = (one.leaves files is tt).promise known left good in
      record {
        holds = holds;
        good = good_is_told ((one.stays files is).good known left good) (m1 files).files holds;
        apart = subst HashesApart (sym (append_assoc known i1 i2)) apart;
        left = left;
      }

  pub then_performs : Performs by (both d1 d2) (both m1 m2) end s0 s2
  then_performs = record {
    does = λ files is text before.
        let f = one.does files is text before in
        then_ends (d1 files) (d2 (d1 files).files) text s0 s1 s2 f end
        (two.does (d1 files).files f.files (text ++ (d1 files).output) f.output);
    promise = λ files is text before. record {
      ends = λ known apart good.
          let next = second known files is apart good in
          let f = (one.promise files is text before).ends known next.left good in
          then_ends (m1 files) (m2 (m1 files).files) text s0 s1 s2 f end
          ((two.promise (m1 files).files next.holds (text ++ (m1 files).output) f.output).ends
          (known ++ (m1 files).interfaces) next.apart next.good);
    };
    frame = λ files is.
        let here = (one.leaves files is tt).does in
        keeps_then (one.frame files is) (subst (λ s. Keeps s s2.holds (d2 (d1 files).files).paths) (sym here)
        (two.frame (d1 files).files here));
    outside = λ files is.
        let here = (one.leaves files is tt).does in
        outside_then files (d1 files).files s1.holds s2.holds (d1 files).outside (d2 (d1 files).files).outside here
        (one.outside files is) (two.outside (d1 files).files here);
    stays = λ files is. record {
      frame = λ known apart good.
          let next = second known files is apart good in
          keeps_then ((one.stays files is).frame known next.left good)
          (subst (λ s. Keeps s s2.holds (m2 (m1 files).files).paths) (sym next.holds)
          ((two.stays (m1 files).files next.holds).frame (known ++ (m1 files).interfaces) next.apart next.good));
      good = λ known apart good.
          let next = second known files is apart good in
          subst (λ texts. StoreIsGood by texts s2.holds)
          (append_assoc known (m1 files).interfaces (m2 (m1 files).files).interfaces)
          ((two.stays (m1 files).files next.holds).good (known ++ (m1 files).interfaces) next.apart next.good);
    };
    leaves = λ files is plain. record {
      ends = (two.leaves (d1 files).files (one.leaves files is tt).does plain).ends;
      does = (two.leaves (d1 files).files (one.leaves files is tt).does plain).does;
      promise_ends = λ known apart good.
          let next = second known files is apart good in
          (two.leaves (m1 files).files next.holds plain).promise_ends (known ++ (m1 files).interfaces) next.apart next.good;
      promise = λ known apart good.
          let next = second known files is apart good in
          (two.leaves (m1 files).files next.holds plain).promise (known ++ (m1 files).interfaces) next.apart next.good;
    };
  }

-- a piece that a fault cut off
module _ (by : Definitions) (d1 m1 d2 m2 : Files → Meaning) (end : Status) (s0 s1 : State)
    (fault : IsPlain end → ⊥) (one : Performs by d1 m1 end s0 s1) where
  pub first_performs : Performs by (λ files. then_command (d1 files) (d2 (d1 files).files))
      (λ files. then_command (m1 files) (m2 (m1 files).files)) end s0 s1
  first_performs = record {
    does = λ files is text before.
        first_ends (d1 files) (d2 (d1 files).files) (between text s0 s1) end fault (one.does files is text before);
    promise = λ files is text before. record {
      ends = λ known apart good.
          first_ends (m1 files) (m2 (m1 files).files) (between text s0 s1) end fault
          ((one.promise files is text before).ends known
          (apart_left known (m1 files).interfaces (m2 (m1 files).files).interfaces apart) good);
    };
    frame = λ files is.
        keeps_wider (one.frame files is)
        (λ q h. Contains-append_left (d1 files).paths (d2 (d1 files).files).paths q h);
    outside = λ files is.
        outside_more files s1.holds (d1 files).outside (d2 (d1 files).files).outside (one.outside files is);
    stays = λ files is. record {
      frame = λ known apart good.
          keeps_wider ((one.stays files is).frame known
          (apart_left known (m1 files).interfaces (m2 (m1 files).files).interfaces apart) good)
          (λ q h. Contains-append_left (m1 files).paths (m2 (m1 files).files).paths q h);
      good = λ known apart good.
          subst (λ texts. StoreIsGood by texts s1.holds)
          (append_assoc known (m1 files).interfaces (m2 (m1 files).files).interfaces)
          (store_more (λ t h. Contains-append_left (known ++ (m1 files).interfaces) (m2 (m1 files).files).interfaces t h)
          ((one.stays files is).good known
          (apart_left known (m1 files).interfaces (m2 (m1 files).files).interfaces apart) good));
    };
    leaves = λ files is plain. absurd (fault plain);
  }

-- nothing is left to be done
pub end_performs : (by : Definitions) (s : State) → Performs by at_end at_end status.Ok s s
end_performs by s = record {
  does = meaning;
  promise = λ files is text before. record { ends = λ known apart good. meaning files is text before };
  frame = λ files is. keeps_same (Some files) s.holds [] is;
  outside = λ files is. record { after = files; tells = is; kept = λ path out apart. refl };
  stays = λ files is. stays_still by files (at_end files) s.holds is;
  leaves = λ files is plain. record {
    ends = refl;
    does = is;
    promise_ends = λ known apart good. refl;
    promise = λ known apart good. is;
  };
}
  where
    meaning : (files : Files) → s.holds ≡ Some files → (text : List ℕ) → s.written ≡ Some text
        → IsMeaning (at_end files) status.Ok (between text s s)
    meaning files is text before = record {
      status = refl;
      output = before ∙ ap Some (sym (append-nil text));
      files = is;
      asks = sym (append-nil s.asked);
      asks_skeletons = sym (append-nil s.skeletons);
    }

-- what does the same over the files that there are, and means the same where their store is good
module _ (by : Definitions) (d m d' m' : Files → Meaning) (end : Status) (s0 s1 : State)
    (ds : (files : Files) → s0.holds ≡ Some files → d files ≡ d' files)
    (ms : (files : Files) → s0.holds ≡ Some files → (known : List (List ℕ))
    → HashesApart (known ++ (m' files).interfaces) → IsGoodStore by known files → m files ≡ m' files)
    (one : Performs by d m end s0 s1) where
  from_good : (files : Files) → s0.holds ≡ Some files → (P : Meaning → List (List ℕ) → Type 0)
      → FromGood by files (m files) (P (m files)) → FromGood by files (m' files) (P (m' files))
  from_good files is P holds = λ known apart good.
      let same : m files ≡ m' files = ms files is known apart good in
      subst (λ a. P a known) same
      (holds known (subst (λ (a : Meaning). HashesApart (known ++ a.interfaces)) (sym same) apart) good)

  pub performs_alike : Performs by d' m' end s0 s1
  performs_alike = record {
    does = λ files is text before.
        subst (λ a. Ends end a (between text s0 s1)) (ds files is) (one.does files is text before);
    promise = λ files is text before. record {
      ends = from_good files is (λ a known. Ends end a (between text s0 s1)) (one.promise files is text before).ends;
    };
    frame = λ files is. subst (λ (a : Meaning). Keeps (Some files) s1.holds a.paths) (ds files is) (one.frame files is);
    outside = λ files is.
        subst (λ (a : Meaning). KeepsOutside a.outside files s1.holds) (ds files is) (one.outside files is);
    stays = λ files is. record {
      frame = from_good files is (λ a known. Keeps (Some files) s1.holds a.paths) (one.stays files is).frame;
      good = from_good files is (λ a known. StoreIsGood by (known ++ a.interfaces) s1.holds) (one.stays files is).good;
    };
    leaves = λ files is plain.
        let left = one.leaves files is plain in
        record {
          ends = left.ends ∙ ap (λ (a : Meaning). a.status) (ds files is);
          does = left.does ∙ ap (λ (a : Meaning). Some a.files) (ds files is);
          promise_ends = from_good files is (λ a known. end ≡ a.status) left.promise_ends;
          promise = from_good files is (λ a known. s1.holds ≡ Some a.files) left.promise;
        };
  }

-- what means the same, over the files that there are
pub performs_same : (by : Definitions) (d m d' m' : Files → Meaning) (end : Status) (s0 s1 : State)
    → ((files : Files) → s0.holds ≡ Some files → d files ≡ d' files)
    → ((files : Files) → s0.holds ≡ Some files → m files ≡ m' files)
    → Performs by d m end s0 s1 → Performs by d' m' end s0 s1
performs_same by d m d' m' end s0 s1 ds ms one =
    performs_alike by d m d' m' end s0 s1 ds (λ files is known apart good. ms files is) one

-- a cause of a later failure
pub cause_later : (before here now : ℕ) (failed : Type 0) → before ≤ here → HasCause here now failed
    → HasCause before now failed
cause_later before here now failed first cause = record {
  later = omega (arith, first, cause.later);
  rose = λ is. omega (arith, first, cause.rose is);
}
