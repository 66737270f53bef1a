use Rattle.std.proofs.Common.{◌≡◌, ℕ, ◌-◌, ◌<◌, Bool, true, ◌&&◌, List, [], ◌∷◌, length, get_or, take, drop, sym, ap, ◌∙◌, arith, rules, tests}
use Rattle.std.specs.List.{list_all}
use Rattle.std.proofs.lemmas.List.{take_all}
use Rattle.std.proofs.lemmas.Iterator.{YieldsList-from_slice}
use Rattle.std.proofs.lemmas.Iterator.Search.{all_from_yields_List}
use Rattle.identifier.specs.Names.{starts, continues, valid_name}
use Rattle.identifier.proofs.identifier.Identifier.is_valid.Goals as goal

-- where the first byte may begin a name, the others decide
others_decide : (xs : List ℕ) (r : Bool) → 0 < length xs → starts (get_or xs 0 0) ≡ true → r ≡ list_all continues (take (length xs - 1) (drop 1 xs)) → r ≡ valid_name xs
others_decide [] r h s e = absurd (omega arith)
others_decide (x ∷ xs) r h s e =
    e ∙ ap (list_all continues) (take_all (length (x ∷ xs) - 1) xs (omega arith)) ∙ ap (λ (b : Bool). b && list_all continues xs) (sym s)

pub returns-then-is_start : goal.returns-then-is_start
returns-then-is_start c =
    let all = all_from_yields_List continues _ _ c.all.result c.all.ensures.ran (YieldsList-from_slice _ c.iter.ensures.rest) (λ x b q k. search (rules, tests)) in
    others_decide c.args.name.now _ (omega arith) (sym c.if-is_start.ensures) all
