-- Declarations of the top level, one after another: what they define together.
use Rattle.std.proofs.Common.{◌≡◌, ℕ, List, [], ◌∷◌, map, refl, sym, ap, ◌∙◌, subst, Bool}
use Rattle.std.specs.Prelude.{Result, Ok, Err, Some, None, OnOk}
use Rattle.cm_base.specs.declared.fault.Fault.{Fault}
use Rattle.cm_base.specs.declared.fault.Fault.TheVariants as fault
use Rattle.semantic_objects.specs.Environments.{Top, empty_top}
use Rattle.unification.specs.Unification.{depth}
use Rattle.type_nodes.specs.Keeping.{IsKept}
use Rattle.type_nodes.specs.Tables.{Table}
use Rattle.sml_modules.specs.Graphs.{Graph}
use Rattle.static_semantics.specs.Inferring.{Progress, Answer, ◌>>=◌, gives}
use Rattle.core_scopes.specs.Scopes.{AreBare}
use Rattle.core_scopes.proofs.Scoping.{all_bare}
use Rattle.type_phrases.specs.Inferred.{Answers}
use Rattle.core_rules.proofs.Chains.{answers_stop}
use Rattle.unit_semantics.specs.UnitPhrases.{TopPhrase}
use Rattle.unit_semantics.specs.UnitInference.{top_with, infer_top, infer_tops}
use Rattle.table_laws.specs.Rising.{RisingTop}
use Rattle.table_laws.proofs.Units.{both_rise}
use Rattle.unit_derivations.specs.Derived.{IsAtTop}
use Rattle.unit_derivations.specs.Promises.{every}
use Rattle.module_scopes.specs.declared.top.TopScope.{TopScope}
use Rattle.module_scopes.specs.Tops.{top_seen, defined_top, IsTopScope}
use Rattle.module_scopes.specs.Stays.{Defines}
use Rattle.module_scopes.proofs.Tops.{tops_stay}
use Rattle.structure_elab.specs.Moments.{Moment, moment, seen_at, progress_at, Passes}
use Rattle.structure_elab.proofs.Chains.{passes_top, passes_then}
use Rattle.top_bindings.specs.Ready.{IsReadyTop}
use Rattle.module_elab.specs.Tops.{IsDefined, AreDefined}
use Rattle.module_elab.proofs.Turns.{tops_in_turn, after_nothing}
use Rattle.module_elab.proofs.Lasting.{top_stays, top_rising}

abbrev wrapped : (Top → Top) → Top × Progress → Answer (Top × Progress)
wrapped wrap q = gives (wrap q.0, q.1)

wrapped_none : (m : Answer (Top × Progress)) → m ≡ (m >>= wrapped (λ e. e))
wrapped_none None = refl
wrapped_none (Some (Err d)) = refl
wrapped_none (Some (Ok q)) = refl

wrapped_twice : (m : Answer (Top × Progress)) (first : Top) (wrap : Top → Top)
    → ((m >>= λ q. gives (top_with first q.0, q.1)) >>= wrapped wrap) ≡ (m >>= wrapped (λ e. wrap (top_with first e)))
wrapped_twice None first wrap = refl
wrapped_twice (Some (Err d)) first wrap = refl
wrapped_twice (Some (Ok q)) first wrap = refl

-- a top whose tables are what they are over nothing
abbrev pub IsAlone : Top → Type 0
IsAlone top = top_with empty_top top ≡ top

nothing_rises : RisingTop empty_top
nothing_rises = Rattle.module_elab.proofs.Lasting.empty_rises

-- what was defined so far, and what is left: `wrap` puts what the rest defines behind it
pub record TopsSoFar (begun now : Moment) (phrases left : List TopPhrase) : Type 0 where
  pub wrap : Top → Top
  pub left_is : infer_tops depth begun.graph.home (seen_at begun) phrases (progress_at begun)
      ≡ (infer_tops depth now.graph.home (seen_at now) left (progress_at now) >>= wrapped wrap)
  pub joins : (q : Top) → RisingTop q → IsAlone q → wrap q ≡ top_with (defined_top now.graph now.top.defined) q
  pub rises : RisingTop (defined_top now.graph now.top.defined)
  pub goes : Passes begun now
  pub there : IsTopScope now.graph now.top
  pub at : IsAtTop every now.graph.home (seen_at now) (progress_at now)
  pub bare : AreBare now.top.core

pub tops_begin : (m : Moment) (phrases : List TopPhrase) → IsReadyTop m → defined_top m.graph m.top.defined ≡ empty_top
    → TopsSoFar m m phrases phrases
tops_begin m phrases r e = record {
  wrap = λ q. q;
  left_is = wrapped_none (infer_tops depth m.graph.home (seen_at m) phrases (progress_at m));
  joins = λ q h a. sym a ∙ ap (λ (d : Top). top_with d q) (sym e);
  rises = subst RisingTop (sym e) nothing_rises;
  goes = passes_top m m.top;
  there = r.there;
  at = r.at;
  bare = r.bare;
}

pub tops_ready : {begun now : Moment} {phrases left : List TopPhrase} → TopsSoFar begun now phrases left
    → IsKept now.table → IsReadyTop now
tops_ready s k = record { there = s.there; kept = k; at = s.at; bare = s.bare }

abbrev rest_of : List ℕ → Top → List TopPhrase → Top × Progress → Answer (Top × Progress)
rest_of home top rest r = infer_tops depth home (top_with top r.0) rest r.1 >>= λ q. gives (top_with r.0 q.0, q.1)

module _ {begun now : Moment} {phrases left rest : List TopPhrase} {phrase : TopPhrase}
    (s : TopsSoFar begun now phrases left) (is : left ≡ phrase ∷ rest) where
  tops_at : infer_tops depth begun.graph.home (seen_at begun) phrases (progress_at begun)
      ≡ ((infer_top depth now.graph.home (seen_at now) phrase (progress_at now)
      >>= rest_of now.graph.home (seen_at now) rest) >>= wrapped s.wrap)
  tops_at = s.left_is
      ∙ ap (λ (z : List TopPhrase). infer_tops depth now.graph.home (seen_at now) z (progress_at now)
      >>= wrapped s.wrap) is

  pub tops_next : {mid : Moment} → IsDefined now phrase mid (Ok tt) → TopsSoFar begun mid phrases rest
  tops_next {mid} h =
      let made : Top = h.made in
      let rising : RisingTop made =
      top_rising now.graph.home (seen_at now) phrase (progress_at now) (made, progress_at mid) s.at h.infers in
      let before : top_seen mid.graph now.top ≡ seen_at now =
      tops_stay.seen now.graph mid.graph now.top h.goes.graph s.there in
      let here : seen_at mid ≡ top_with (seen_at now) made =
      h.defines.seen ∙ ap (λ (z : Top). top_with z made) before in
      let all : defined_top mid.graph mid.top.defined ≡ top_with (defined_top now.graph now.top.defined) made =
      h.defines.defined ∙ ap (λ (z : Top). top_with z made)
      (tops_stay.defined now.graph mid.graph now.top.defined h.goes.graph s.there.defined) in
      let at_now : IsAtTop every now.graph.home (top_with (seen_at now) made) (progress_at mid) =
      top_stays now.graph.home (seen_at now) phrase (progress_at now) (made, progress_at mid) s.at h.infers in
      record {
        wrap = λ q. s.wrap (top_with made q);
        left_is = tops_at
            ∙ ap (λ (m : Answer (Top × Progress)). (m >>= rest_of now.graph.home (seen_at now) rest) >>= wrapped s.wrap)
            h.infers
            ∙ wrapped_twice
            (infer_tops depth now.graph.home (top_with (seen_at now) made) rest (progress_at mid)) made s.wrap
            ∙ ap (λ (z : Top). infer_tops depth now.graph.home z rest (progress_at mid)
            >>= wrapped (λ q. s.wrap (top_with made q))) (sym here)
            ∙ ap (λ home. infer_tops depth home (seen_at mid) rest (progress_at mid)
            >>= wrapped (λ q. s.wrap (top_with made q))) (sym h.goes.home);
        joins = λ q r a.
            s.joins (top_with made q) (both_rise made q rising r)
            (sym (tops_in_turn empty_top made q nothing_rises rising r) ∙ ap (λ (z : Top). top_with z q) h.alone)
            ∙ sym (tops_in_turn (defined_top now.graph now.top.defined) made q s.rises rising r)
            ∙ ap (λ (z : Top). top_with z q) (sym all);
        rises = subst RisingTop (sym all) (both_rise (defined_top now.graph now.top.defined) made s.rises rising);
        goes = passes_then {a = begun} {b = now} {c = mid} s.goes h.goes;
        there = h.defines.there (tops_stay.scope now.graph mid.graph now.top h.goes.graph s.there);
        at = subst (λ home. IsAtTop every home (seen_at mid) (progress_at mid)) (sym h.goes.home)
            (subst (λ (z : Top). IsAtTop every now.graph.home z (progress_at mid)) (sym here) at_now);
        bare = all_bare now.top.core mid.top.core h.defines.bare s.bare;
      }

  pub tops_fail : {mid : Moment} {e : Fault} → IsDefined now phrase mid (Err e) → AreDefined begun phrases mid (Err e)
  tops_fail {mid} {e} h = record {
    infers = subst (λ (w : Answer (Top × Progress)). Answers w
        (λ (u : Unit {0}). (defined_top mid.graph mid.top.defined, progress_at mid)) (Err e)) (sym tops_at)
        (answers_stop (infer_top depth now.graph.home (seen_at now) phrase (progress_at now)
        >>= rest_of now.graph.home (seen_at now) rest) (wrapped s.wrap) (λ (u : Unit {0}). (h.made, progress_at mid))
        (λ (u : Unit {0}). (defined_top mid.graph mid.top.defined, progress_at mid)) e
        (answers_stop (infer_top depth now.graph.home (seen_at now) phrase (progress_at now))
        (rest_of now.graph.home (seen_at now) rest) (λ (u : Unit {0}). (h.made, progress_at mid))
        (λ (u : Unit {0}). (h.made, progress_at mid)) e h.infers));
    there = tt;
    goes = passes_then {a = begun} {b = now} {c = mid} s.goes h.goes;
  }

pub tops_end : {begun now : Moment} {phrases left : List TopPhrase} → TopsSoFar begun now phrases left → left ≡ []
    → AreDefined begun phrases now (Ok tt)
tops_end {begun} {now} {phrases} {left} s is = record {
  infers = s.left_is
      ∙ ap (λ (z : List TopPhrase). infer_tops depth now.graph.home (seen_at now) z (progress_at now)
      >>= wrapped s.wrap) is
      ∙ ap (λ (x : Top). gives (x, progress_at now))
      (s.joins empty_top nothing_rises refl ∙ after_nothing (defined_top now.graph now.top.defined));
  there = s.there;
  goes = s.goes;
}
