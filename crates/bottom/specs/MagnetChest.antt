-- What a magnet chest means; it is always settled. Assumes nothing.
use Rattle.chest.specs.Meaning.{Meaning}
use Rattle.bottom.specs.declared.magnet_chest.MagnetChest.{MagnetChest}
use Rattle.bottom.specs.Foot.{foot_meaning}

abbrev pub magnet_meaning : MagnetChest → Meaning
magnet_meaning c = foot_meaning c.foot

abbrev pub MagnetSettled : MagnetChest → Type 0
MagnetSettled c = Unit {0}
