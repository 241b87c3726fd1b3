-- Versions and places, each its own kind.
use Rattle.std.specs.Prelude.{ℕ}
use Rattle.steps.specs.declared.Version.{Version}
use Rattle.steps.specs.declared.Place.{Place}

abbrev pub version : ℕ → Version
version n = record { 0 = n }

abbrev pub place : ℕ → Place
place n = record { 0 = n }
