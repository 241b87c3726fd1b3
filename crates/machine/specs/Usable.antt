-- The states that a step can run on; it answers 10 on any other.
use Rattle.std.specs.Prelude.{Bool, ◌&&◌}
use Rattle.rules.specs.Fit.{counts_fit, txns_fit, places_fit}
use Rattle.machine.specs.declared.State.{State}

-- no count over its limit, no key number out of range, no key twice in a list, no place over 128
unfoldable pub usable : State → Bool
usable st =
    counts_fit st.tables.keys st.tables.groups st.tables.group st.tables.txns
    && (txns_fit st.tables.keys st.tables.txn st.tables.txns
    && places_fit st.parts.places st.tables.txns)
