use Rattle.std.proofs.Common.{[], refl, arith}
use Rattle.std.specs.Prelude.{codes}
use Rattle.ir.specs.Stores.{nodes}
use Rattle.ir.specs.Tables.{SymbolInserted}
use Rattle.symbol_table.specs.Inserting.{insert_rows}
use Rattle.result.specs.declared.refusal.Refusal.TheVariants.{WouldContainItself}
use Rattle.edges.proofs.Built.{nested, two_blocks}
use Rattle.edges.proofs.Names.{letters_pass, malformed, too_long}
use Rattle.edges.proofs.NewTables.{contains_itself}
use Rattle.edges.proofs.Rows.{refused}
use Rattle.edges.proofs.Trees.{break_ends, come_after, skip_keeps}
use Rattle.edges.proofs.cases.edge_cases.Goals as goal

pub returns : goal.returns
returns g c = record {
  skip_at_a_block_keeps_the_next_block = λ s l r b0 b1 log say. skip_keeps s l log say r b0 b1;
  operations_come_after_their_regions = λ s l o0 o1 o2 r0 r1 b0 b1 log say t. come_after s l o0 o1 o2 r0 r1 b0 b1 t log say;
  break_in_an_inner_region_ends_the_whole_walk = λ s l o0 o1 o2 r0 r1 b0 b1 log say v t. break_ends s l o0 o1 o2 r0 r1 b0 b1 t log say v;
  two_blocks_stand_where_built = two_blocks;
  nested_stands_where_built = nested;
  a_new_table_is_not_put_into_itself = λ s t u name made point r a i b.
      refused (insert_rows (nodes t) made.operation made.operation point) (λ _ v. SymbolInserted t made.operation made.operation point v) t r u WouldContainItself
      (contains_itself s t name made a.0 a.1 point i) b;
  a_digit_first_is_malformed = malformed (codes "9a") (λ l. omega arith) refl;
  no_bytes_are_malformed = malformed [] (λ l. omega arith) refl;
  thirty_two_letters_pass = letters_pass;
  thirty_three_bytes_are_too_long = too_long;
}
