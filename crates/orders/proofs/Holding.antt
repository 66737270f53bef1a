-- A walk that is held: how it starts, and what each step promises.
use Rattle.std.proofs.Common.{◌≡◌, refl, sym, ap, subst, ◌∙◌, List, [], ◌∷◌, ◌++◌, ◌⊎◌, Bool, Some, None, Option}
use Rattle.linked_list.specs.Links.{first_or}
use Rattle.orders.specs.declared.place.At.{At}
use Rattle.orders.specs.declared.place.At.TheVariants.{Start, Entering, Leaving, Ended}
use Rattle.orders.specs.declared.walk_result.WalkResult.{WalkResult}
use Rattle.orders.specs.declared.walk_result.WalkResult.TheVariants.{Advance}
use Rattle.orders.specs.Logs.{Shown, shown, GoesOn, Unbroken, Next}
use Rattle.orders.specs.Places.{Links, kids, goes, remaining, shows, node_at, Fit, Begun, never}
use Rattle.orders.specs.Runs.{closed, Newest, begun, after, Going, answered, Held}
use Rattle.orders.proofs.Stands.{Grown}
use Rattle.orders.proofs.Logs.{skips}
use Rattle.orders.proofs.Runs.{nil_cons, goes_on, starts_on, all_unbroken, going_start, going_more, going_left, going_ends}

same_head : {N : Type 0} {m n : N} → m ∷ [] ≡ n ∷ [] → m ≡ n
same_head e = cc

module _ {N B : Type 0} where
  last_goes_on : (earlier : List (Shown N B)) (n : N) (a : WalkResult B) → Unbroken (earlier ++ (shown n a ∷ [])) → GoesOn a
  last_goes_on [] n a u = u.0
  last_goes_on (s ∷ earlier) n a u = last_goes_on earlier n a u.1

  newest_goes_on : (at : At N) (a : WalkResult B) (log : List (Shown N B)) → Newest at a log → Unbroken log → GoesOn a
  newest_goes_on at a log (begun e h l) u = subst GoesOn (sym h) tt
  newest_goes_on at a log (after earlier m s l v) u = last_goes_on earlier m a (subst Unbroken l u)

  pub held_start : (L : Links N) (root : N) (at : At N) → at ≡ Start → Held {B = B} L root at []
  held_start L root at e = record {
    start = λ _. refl;
    awaits = λ n s a. absurd (nil_cons (sym (ap shows e) ∙ s));
    over = λ q. absurd (let z : Start ≡ Ended = sym e ∙ q in cc);
  }

module _ {N B : Type 0} (same : (a b : N) → (a ≡ b) ⊎ (a ≡ b → ⊥)) (L : Links N) (g : Grown L) (root : N) where
  module _ (at : At N) (a : WalkResult B) (log : List (Shown N B)) (w : Going L root at a log) where
    abbrev Says : Option N → Type 0
    Says r = Next L.up L.early (kids L) root log r

    -- the step gives the node m
    gives : (to : At N) (m : N) → ((S : N → Bool) → goes L root S at a ≡ m ∷ remaining L root S to) → Fit L root to → shows to ≡ m ∷ [] → (to ≡ Start → ⊥) → (to ≡ Ended → ⊥)
        → Held L root to log × Says (Some m)
    gives to m left fits s ns ne =
        let o : GoesOn a = goes_on L root m never at a (remaining L root never to) (starts_on at a log w.newest) (left never) in (
          record {
            start = λ e. absurd (ns e);
            awaits = λ n q b. subst (λ (x : N). Going L root to b (log ++ (shown x b ∷ []))) (same_head (sym s ∙ q)) (going_more same L g root at a log w to m left fits s b);
            over = λ e. absurd (ne e);
          },
          record {
            comes = λ u. (goes L root (skips same log) at a, going_left same L g root at a log w o, sym (ap (λ l. first_or l None) (left (skips same log))));
            stops = λ h. absurd (h (all_unbroken at a log w.newest o));
            ends = λ e. absurd (cc);
          },
        )

    -- the step gives none
    gives_none : ((S : N → Bool) → goes L root S at a ≡ []) → Says None
    gives_none left = record {
      comes = λ u. (goes L root (skips same log) at a, going_left same L g root at a log w (newest_goes_on at a log w.newest u), sym (ap (λ l. first_or l None) (left (skips same log))));
      stops = λ h. refl;
      ends = λ e. (closed a, going_ends same L g root at a log w Ended left refl (closed a) refl);
    }

    gone : Says None → Held L root Ended log
    gone s = record { start = λ e. absurd (cc); awaits = λ n q b. absurd (nil_cons q); over = λ e. s }

    going_step : (to : At N) → ((S : N → Bool) → goes L root S at a ≡ shows to ++ remaining L root S to) → Fit L root to → Begun to → Held L root to log × Says (node_at to)
    going_step Start left fits b = absurd b
    going_step (Entering m) left fits b = gives (Entering m) m left fits refl (λ e. cc) (λ e. cc)
    going_step (Leaving m) left fits b = gives (Leaving m) m left fits refl (λ e. cc) (λ e. cc)
    going_step Ended left fits b = (gone (gives_none left), gives_none left)

  -- after the last node no step gives one
  ended_step : (a : WalkResult B) (log : List (Shown N B)) → Held L root Ended log → (to : At N) → ((S : N → Bool) → [] ≡ shows to ++ remaining L root S to) → Begun to
      → Held L root to log × Next L.up L.early (kids L) root log (node_at to)
  ended_step a log h Start left b = absurd b
  ended_step a log h (Entering m) left b = absurd (nil_cons (left never))
  ended_step a log h (Leaving m) left b = absurd (nil_cons (left never))
  ended_step a log h Ended left b = (h, h.over refl)

  -- a step of a held walk: what it gives, and that the walk is held on
  pub held_step : (at : At N) (a : WalkResult B) (log : List (Shown N B)) → Held L root at log → (to : At N) → ((S : N → Bool) → goes L root S at a ≡ shows to ++ remaining L root S to) → Fit L root to → Begun to
      → Held L root to (answered at log a) × Next L.up L.early (kids L) root (answered at log a) (node_at to)
  held_step Start a log h to left fits b =
      subst (λ (x : List (Shown N B)). Held L root to x × Next L.up L.early (kids L) root x (node_at to)) (sym (h.start refl))
      (going_step Start Advance [] (going_start L root Start Advance refl refl) to left fits b)
  held_step (Entering n) a log h to left fits b = going_step (Entering n) a (log ++ (shown n a ∷ [])) (h.awaits n refl a) to left fits b
  held_step (Leaving n) a log h to left fits b = going_step (Leaving n) a (log ++ (shown n a ∷ [])) (h.awaits n refl a) to left fits b
  held_step Ended a log h to left fits b = ended_step a log h to left b
