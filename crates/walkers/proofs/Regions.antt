-- The regions of operations stand in lists as blocks and operations do. Assumes nothing.
use Rattle.std.proofs.Common.{◌≡◌, ℕ, zero, suc, ◌+◌, ◌-◌, ◌==◌, true, cond, length, Some, None, Option, sym, refl, ap, ◌∙◌, subst, ap₂, arith}
use Rattle.std.proofs.lemmas.Bool.{ne_eqb}
use Rattle.std.specs.Option.{option_map}
use Rattle.arena.specs.Pools.{live}
use Rattle.arena.specs.Shelves.{item}
use Rattle.linked_list.specs.Links.{Chain, Holds, In, Node}
use Rattle.linked_list.proofs.Lists.{none_some, some_same}
use Rattle.records.specs.declared.handles.OpPtr.{OpPtr}
use Rattle.records.specs.declared.handles.RegionPtr.{RegionPtr}
use Rattle.records.specs.declared.operation.Operation.{Operation}
use Rattle.records.specs.declared.region.Region.{Region}
use Rattle.records.specs.Children.{regions_in}
use Rattle.records.specs.Models.{Model, operation_at, region_at}
use Rattle.records.specs.Nodes.{Owned, regions_of}
use Rattle.records.specs.Views.{part}
use Rattle.forest.proofs.Owning.{named_live}
use Rattle.walkers.specs.Links.{after_it, before_it, nth_region, region_links}
use Rattle.walkers.proofs.Items.{before, chain_of, item_in}

-- the place of a region among the regions of its operation
abbrev index_in : Option Region → ℕ
index_in None = 0
index_in (Some x) = x.index

module _ (m : Model) (w : Owned m) where
  -- the region before a place
  abbrev prior : ℕ → OpPtr → Option RegionPtr
  prior i op = cond (i == 0) None (nth_region m (i - 1) op)

  prior_is : (op : OpPtr) (o : Operation) (i : ℕ) → operation_at m op ≡ Some o → prior i op ≡ before None (regions_of o) i
  prior_is op o zero e = refl
  prior_is op o (suc i) e =
      let q : suc i - 1 ≡ i = omega arith in
      ap (λ b. cond b None (nth_region m (suc i - 1) op)) (ne_eqb (suc i) 0 (λ z. omega arith))
      ∙ ap (λ j. nth_region m j op) q ∙ ap (part (λ (y : Operation). item (regions_of y) i)) e

  stands : (op : OpPtr) (o : Operation) → operation_at m op ≡ Some o → (i : ℕ) (r : RegionPtr) → item (regions_of o) i ≡ Some r → Node (region_links m) op (before None (regions_of o) i) r (item (regions_of o) (suc i))
  stands op o e i r f =
      let b = w.belongs op o i r e f in
      let q : i + 1 ≡ suc i = omega arith in record {
        prev = ap (part (before_it m)) b.record_is ∙ ap₂ prior b.place b.operation ∙ prior_is op o i e;
        next = ap (part (after_it m)) b.record_is ∙ ap₂ (λ (j : ℕ) (p : OpPtr). nth_region m (j + 1) p) b.place b.operation ∙ ap (part (λ (y : Operation). item (regions_of y) (i + 1))) e ∙ ap (item (regions_of o)) q;
        within = ap (option_map (λ (y : Region). y.parent_op)) b.record_is ∙ ap Some b.operation;
        live = named_live m.regions r.handle b.is_live b.record_is;
      }

  region_chain : (op : OpPtr) (q : Option Operation) → operation_at m op ≡ q → Chain (region_links m) op (regions_in q)
  region_chain op None e = record {
    head = ap (part (λ (y : Operation). item (regions_of y) 0)) e;
    tail = ap (part (λ (y : Operation). item (regions_of y) (length (regions_of y) - 1))) e;
    run = tt;
    apart = tt;
  }
  region_chain op (Some o) e =
      chain_of (region_links m) op (regions_of o) (λ r. index_in (region_at m r)) (ap (part (λ (y : Operation). item (regions_of y) 0)) e)
      (ap (part (λ (y : Operation). item (regions_of y) (length (regions_of y) - 1))) e) (stands op o e)
      (λ i r f. let b = w.belongs op o i r e f in ap index_in b.record_is ∙ b.place)

  listed : (r : RegionPtr) (op : OpPtr) (q : Option Region) → region_at m r ≡ q → option_map (λ (y : Region). y.parent_op) q ≡ Some op
      → (live m.operations.pool op.handle ≡ true) × In r (regions_in (operation_at m op))
  listed r op None e f = absurd (none_some f)
  listed r op (Some x) e f =
      let h = w.has r x e in
      let at : operation_at m op ≡ Some h.is_live = ap (operation_at m) (sym (some_same f)) ∙ h.record_is in
      (named_live m.operations op.handle h.is_live at, subst (λ y. In r (regions_in y)) (sym at) (item_in r (regions_of h.is_live) x.index h.listed))

  loose : (r : RegionPtr) (q : Option Region) → region_at m r ≡ q → option_map (λ (y : Region). y.parent_op) q ≡ None
      → ((region_links m).next r ≡ None) × ((region_links m).prev r ≡ None)
  loose r None e f = (ap (part (after_it m)) e, ap (part (before_it m)) e)
  loose r (Some x) e f = absurd (none_some (sym f))

  -- operations' links describe the lists of their regions
  pub regions_hold : Holds (region_links m) (λ op. regions_in (operation_at m op))
  regions_hold = record {
    chains = λ op h. region_chain op (operation_at m op) refl;
    listed = λ r op l f. listed r op (region_at m r) refl f;
    loose = λ r l f. loose r (region_at m r) refl f;
  }
