pub mod LocalView
