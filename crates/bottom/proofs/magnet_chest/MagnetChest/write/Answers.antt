use Rattle.bottom.proofs.BufferNumber.{numbered-written}
use Rattle.bottom.proofs.magnet_chest.MagnetChest.write.Goals as goal

pub returns-clause-number : goal.returns-clause-number
returns-clause-number c =
    let copied = c.copy_from_slice.ensures in
    numbered-written _ _ _ c.if-buffer-ne-BYTES.false copied.after copied.len (λ j. (c.type_inv.buffer j).fits)
