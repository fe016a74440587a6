pub mod OctalDigits
