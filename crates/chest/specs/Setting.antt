-- What a setting is of. Assumes nothing.
use Rattle.std.specs.Prelude.{ℕ}
use Rattle.chest.specs.declared.setting.Setting.{Setting}

-- its knob
abbrev pub knob_of : Setting → ℕ
knob_of s = s.knob

-- where it turns that knob
abbrev pub position_of : Setting → ℕ
position_of s = s.position
