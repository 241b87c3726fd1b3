-- A fresh state: each replica at version 1 with the first value, and nothing done.
use Rattle.std.specs.Prelude.{false, cond, eqb, replicate}
use Rattle.bounded.specs.Bounded.{list_from}
use Rattle.tables.specs.First.{first_at}
use Rattle.tables.specs.Empty.{no_tables}
use Rattle.tables.specs.Judge.{judge}
use Rattle.tables.specs.declared.Tables.{Tables}
use Rattle.steps.specs.Kinds.{version, place}
use Rattle.machine.specs.declared.State.{State}
use Rattle.machine.specs.declared.Fresh.{Fresh}
use Rattle.numbers.specs.Numbers.{file_outcome}

unfoldable pub start_of : Tables → State
start_of T = record {
  tables = T;
  parts = record {
    versions = replicate 1024 (version 1);
    values = list_from 0 1024 (first_at T);
    recorded = replicate 1024 false;
    readversions = replicate 1024 (version 0);
    readvalues = replicate 1024 0;
    places = replicate 128 (place 0);
    delivered = replicate 2048 false;
    closed = replicate 2048 0;
    cast = replicate 2048 0;
    carried = replicate 2048 0;
  };
}

-- whether the reader would take the tables, and the state made of them where it would
unfoldable pub fresh_of : Tables → Fresh
fresh_of T = record { outcome = file_outcome (judge T); state = start_of (cond (eqb (judge T) 0) T no_tables) }
