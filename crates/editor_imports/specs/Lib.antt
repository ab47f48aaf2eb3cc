pub mod Imports
