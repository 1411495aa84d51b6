-- `huffman::find::known` meets its contract: what is past the tables has the code of table 0. Assumes nothing.
use Rattle.huffman.proofs.Reading.{held-table, held-past}
use Rattle.huffman.proofs.find.known.Goals as goal

pub returns-then-table-lt-TABLES : goal.returns-then-table-lt-TABLES
returns-then-table-lt-TABLES c = held-table c.args.table c.if-table-lt-TABLES.true

pub returns : goal.returns
returns c = held-past c.args.table c.if-table-lt-TABLES.false
