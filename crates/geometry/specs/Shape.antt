-- Document 01, "The drive's fixed shape": the limits of a configuration, and what it makes of planes, ADUs and the store.
use Rattle.std.specs.Prelude.{ℕ, ◌+◌, ◌-◌, ◌*◌, ◌/◌, Bool, ◌&&◌, cond, leb}
use Rattle.geometry.specs.declared.shape.Adus.{Adus}
use Rattle.geometry.specs.declared.shape.Config.{Config}
use Rattle.geometry.specs.declared.shape.Planes.{Planes}

-- a number of planes, a number of ADUs
abbrev pub planes : ℕ → Planes
planes n = record { 0 = n }

abbrev pub adus : ℕ → Adus
adus n = record { 0 = n }

-- a configuration of zeros
abbrev pub no_config : Config
no_config = record { pages = 0; dies = 0; planes = 0; adus = 0; blocks = 0; rated = 0; period = 0 }

-- n is low to high
abbrev pub between : ℕ → ℕ → ℕ → Bool
between low high n = leb low n && leb n high

-- The ranges of G, D, L, K, S, N and T.
unfoldable pub each_in_range : Config → Bool
each_in_range c =
    between 128 8192 c.pages
    && between 1 64 c.dies
    && between 1 64 c.planes
    && between 1 256 c.adus
    && between 1 256 c.blocks
    && between 1 65535 c.rated
    && between 1 65535 c.period

-- W = G × D × L, the planes of a block
unfoldable pub planes_per_block : Config → Planes
planes_per_block c = planes (c.pages * c.dies * c.planes)

-- C = W × K, the ADUs of a block
unfoldable pub adus_per_block : Config → Adus
adus_per_block c = adus ((planes_per_block c).0 * c.adus)

-- Each number in its range, and C at most 1,048,576.
unfoldable pub within_limits : Config → Bool
within_limits c = each_in_range c && leb (adus_per_block c).0 1048576

-- What a program says of a count where the configuration may be outside the limits: there it is 0.
abbrev pub counted : Config → ℕ → ℕ
counted c n = cond (within_limits c) n 0

-- S × W, the planes of the drive
unfoldable pub drive_planes : Config → Planes
drive_planes c = planes (c.blocks * (planes_per_block c).0)

-- Planes rounded up to whole blocks, as a number of blocks.
unfoldable pub whole_blocks : Config → Planes → ℕ
whole_blocks c n = (n.0 + ((planes_per_block c).0 - 1)) / (planes_per_block c).0

-- The store has S × C entries, one for each ADU of the drive.
unfoldable pub store_length : Config → Adus
store_length c = adus (c.blocks * (adus_per_block c).0)

-- A block's stretch of the store begins at block number × C.
unfoldable pub stretch_start : Config → ℕ → Adus
stretch_start c block = adus (block * (adus_per_block c).0)
