use Rattle.script.proofs.Tabled.{same_list_at_end}
use Rattle.script.proofs.state.State.walk_table.Goals as goal

pub returns-clause-same_reference : goal.returns-clause-same_reference
returns-clause-same_reference c = same_list_at_end c.args.self.now.context c.args.table c.args.visitor.now _ c.walk_symbol_table.new.visitor c.walk_symbol_table.ensures
