-- The regions of one operation in its four places.
use Rattle.std.specs.Prelude.{◌-◌, List, ◌++◌, length, replicate}
use Rattle.records.specs.declared.handles.RegionPtr.{RegionPtr}

-- a handle that is never live, where an operation has no region
abbrev pub no_region : RegionPtr
no_region = record { handle = record { place = 0; version = 0 } }

-- at most four regions in the four places: none in the rest
abbrev pub padded : List RegionPtr → List RegionPtr
padded xs = xs ++ replicate (4 - length xs) no_region
